use Rattle.mxf_views.proofs.Common.{◌≡◌, ◌∙◌, ◌+◌, None, Some, drop, ◌∷◌, List, ℕ, refl, sym, ap, arith, length}
use Rattle.mxf_views.proofs.Common.{length-drop, note_of, size_of, PacketParts, notes_in, packet_at, packets_in}
use Rattle.mxf_views.proofs.Common.{stop_in, packets_in-none, packets_in-some}
use Rattle.mxf_read.proofs.Taking.{ended, one_more, stopped, stopped_at_head}
use Rattle.mxf_read.proofs.absorbing.note_packets.Goals as goal

pub returns-in_default : goal.returns-in_default
returns-in_default c =
    stopped c.args.catalogue.now c.packets.catalogue c.note_packet.new.catalogue c.args.offset c.args.bytes.now _ _
    c.packets.noted c.packets.at (note_of c.packets.at c.in-Ok.packet) c.packets.invariant.notes
    c.in-Ok.ensures.goes_on.notes c.in_default.ensures.err refl

-- all packets were noted
all_noted : (noted at offset : ℕ) (rest bytes : List ℕ)
    → noted + length (packets_in at rest) ≡ length (packets_in offset bytes) → packet_at at rest ≡ None
    → noted ≡ length (packets_in offset bytes)
all_noted noted at offset rest bytes count none = omega (arith, count, ap length (packets_in-none at rest none))

pub returns-in-Ok-note_head : goal.returns-in-Ok-note_head
returns-in-Ok-note_head c =
    let i = c.packets.invariant in
    ended c.args.catalogue.now c.packets.catalogue c.note_head.new.catalogue c.args.offset c.args.bytes.now _ _
    c.packets.noted c.in-Err.stop i.notes c.in-Err.ensures.ends.notes c.in-Ok-note_head.ensures.noted
    (all_noted c.packets.noted c.packets.at c.args.offset c.packets.rest.now c.args.bytes.now i.count
    c.in-Err.ensures.none.0) (sym (i.stop ∙ c.in-Err.ensures.ends.stop))

pub returns-in-Err-note_head : goal.returns-in-Err-note_head
returns-in-Err-note_head c =
    let i = c.packets.invariant in
    stopped_at_head c.args.catalogue.now c.packets.catalogue c.note_head.new.catalogue c.args.offset c.args.bytes.now _
    c.packets.noted c.packets.at c.packets.rest.now i.notes c.in-Err.ensures.ends.notes c.in-Err-note_head.ensures.err
    c.in-Err-note_head.ensures.some

-- a packet more is noted, and one less is left
one_counted : (noted whole at size : ℕ) (rest after : List ℕ) (p : PacketParts) → packet_at at rest ≡ Some p
    → size ≡ size_of p → drop size rest ≡ after → noted + length (packets_in at rest) ≡ whole
    → noted + 1 + length (packets_in (at + size) after) ≡ whole
one_counted noted whole at size rest after p e is left count =
    grind (arith, packets_in, size_of, drop, length, packets_in-some)

pub packets-preserved : goal.packets-preserved
packets-preserved c =
    let i = c.packets.invariant in
    let on = c.in-Ok.ensures.goes_on in
    let n = note_of c.packets.at c.in-Ok.packet in
    let at = c.packets.at + c.in-Ok.size in
    let back = c.split_at.ensures.back in
    let left = on.notes ∙ ap (λ (t : List ℕ). n ∷ notes_in at t) (sym back) in
    let len = ap length back in
    let some = on.some in
    let room = on.room in
    record {
      notes = grind (arith, one_more, notes_in, n, left);
      count = one_counted c.packets.noted _ c.packets.at c.in-Ok.size c.packets.rest.now _ c.in-Ok.packet
          c.in-Ok.ensures.packet.0 c.in-Ok.ensures.packet.1 (sym back) i.count;
      stop = i.stop ∙ on.stop ∙ ap (λ (t : List ℕ). stop_in at t) (sym back);
      fits = omega (arith, i.fits, len, some, room, length-drop c.in-Ok.size c.packets.rest.now);
    }
