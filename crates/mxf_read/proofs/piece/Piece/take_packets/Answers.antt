use Rattle.std.proofs.Common.{ℕ, ◌+◌, [], ◌∷◌, length, drop, length-append, subst, sym}
use Rattle.std.proofs.lemmas.Slice.Zip.{zip_turn}
use Rattle.mxf_klv.specs.Note.{note_of}
use Rattle.mxf_read.specs.Feeding.{NotesOne}
use Rattle.mxf_read.proofs.WholePackets.{IsTaken, next_within, one_taken, turned}
use Rattle.mxf_read.proofs.piece.Piece.take_packets.Goals as goal

pub note-requires-clause-within : goal.note-requires-clause-within
note-requires-clause-within c =
    let ps = c.args.packets.now in
    let k = length c.loop-packet.yielded in
    let p = c.in-Some.packet.now in
    let turn = zip_turn ps c.digests_of-found.result c.loop-packet.yielded c.into_iter-packet-iterator.result
    c.loop-packet.packet-iterator c.next.new.self c.next.result (cc) (cc) c.loop-packet.yielded_by _ c.in-Some.is
    c.next.ensures.steps in
    next_within c.args.self.now c.loop-packet.self c.args._bytes.now k p (drop (k + 1) ps)
    (turned c.args.self.now c.loop-packet.self c.args._bytes.now k ps p c.loop-packet.invariant turn.0 (turn.2 p))

pub loop-packet-preserved : goal.loop-packet-preserved
loop-packet-preserved c =
    let ps = c.args.packets.now in
    let k = length c.loop-packet.yielded in
    let p = c.in-Some.packet.now in
    let turn = zip_turn ps c.digests_of-found.result c.loop-packet.yielded c.into_iter-packet-iterator.result
    c.loop-packet.packet-iterator c.next.new.self c.next.result (cc) (cc) c.loop-packet.yielded_by _ c.in-Some.is
    c.next.ensures.steps in
    let one : NotesOne c.loop-packet.self c.add_note.new.self (note_of c.loop-packet.self.at p) =
    subst (NotesOne c.loop-packet.self c.add_note.new.self) c.note.ensures c.in_ok-add_note.ensures.added in
    subst (λ (j : ℕ). IsTaken c.args.self.now c.add_note.new.self c.args._bytes.now j (drop j ps))
    (sym (length-append c.loop-packet.yielded ((c.in-Some.packet, c.in-Some.digest) ∷ [])))
    (one_taken c.args.self.now c.loop-packet.self c.add_note.new.self c.args._bytes.now k p (drop (k + 1) ps)
    (turned c.args.self.now c.loop-packet.self c.args._bytes.now k ps p c.loop-packet.invariant turn.0 (turn.2 p)) one)
