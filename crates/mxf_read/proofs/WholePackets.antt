-- Whole packets at the front of bytes, which are noted one after another.
use Rattle.mxf_views.proofs.Common.{◌≡◌, ℕ, ◌+◌, ◌<◌, ◌≤◌, List, [], ◌∷◌, ◌++◌, length, take, drop, None, Some, refl, Result, Ok, Err}
use Rattle.mxf_views.proofs.Common.{sym, ap, subst, ◌∙◌, arith, append_assoc, append-nil, length-append}
use Rattle.mxf_views.proofs.Common.{PacketParts, size_of, note_of, end_of, packet_at, rest_in}
use Rattle.std.proofs.Common.{take-append-drop, length-take, get_or}
use Rattle.std.proofs.lemmas.List.{drop_more}
use Rattle.mxf_klv.specs.Note.{greatest_end}
use Rattle.mxf_klv.proofs.PieceLaws.{packet_at-given, packet_at-stands}
use Rattle.mxf_skim.specs.declared.scan.Scan.{Scan}
use Rattle.mxf_skim.specs.declared.scan.Scan.TheVariants.{Full}
use Rattle.mxf_read.specs.Feeding.{Fails, Feeds, Knows, NotesNone, NotesOne, TakesFront, TakesSome}
use Rattle.mxf_read.specs.WholePackets.{StandAtFront}
use Rattle.mxf_read.specs.ValueSoFar.{noted_if, passes}
use Rattle.mxf_read.specs.declared.piece.Piece.{Piece}
use Rattle.mxf_read.proofs.Feeding.{Feeds-trans, holds, noted_packet}

-- a whole packet was noted where no byte of it had come
one_fed : (p q : Piece) (bytes : List ℕ) (pk : PacketParts) → p.scan ≡ Full → p.stop ≡ None → p.value ≡ None
    → p.head.items ≡ [] → packet_at p.at bytes ≡ Some pk → NotesOne p q (note_of p.at pk)
    → Feeds p q (take (size_of pk) bytes)
one_fed p q bytes pk full stop value head stands one scan o m fed =
    let x = take (size_of pk) bytes in
    let whole : rest_in o m ++ x ≡ x =
    ap (λ (r : List ℕ). r ++ x) (sym (holds scan o m p fed stop value).head ∙ head) in
    let there = packet_at-stands p.at bytes pk stands in
    let here : packet_at p.at x ≡ Some pk =
    packet_at-given p.at x x [] pk there.spelled (sym (append-nil x)) there.within in
    let room = there.room in
    noted_packet scan o m x p q pk (note_of p.at pk) fed.knows
    (subst (λ (r : List ℕ). packet_at p.at r ≡ Some pk) (sym whole) here)
    (omega (arith, ap length whole, length-take (size_of pk) bytes, room))
    (ap (λ (s : Scan). noted_if (passes s pk.key (length pk.value)) (note_of p.at pk)) (sym full ∙ fed.knows.taken_by))
    one.scan one.notes one.at (one.stop ∙ stop) (one.value ∙ value) (one.head ∙ head)

-- So many packets of these bytes were noted, and these stand at the front of what is left.
pub record IsTaken (old now : Piece) (bytes : List ℕ) (count : ℕ) (ahead : List PacketParts) : Type 0 where
  pub done : List ℕ
  pub left : List ℕ
  pub split : bytes ≡ done ++ left
  pub fed : Feeds old now done
  pub some : count ≤ length done
  pub at : now.at ≡ old.at + length done
  pub stand : StandAtFront now.at left ahead
  pub scan : now.scan ≡ Full
  pub stop : now.stop ≡ None
  pub value : now.value ≡ None
  pub head : now.head.items ≡ []

-- the next packet ends where it may
pub next_within : (old now : Piece) (bytes : List ℕ) (count : ℕ) (p : PacketParts) (ps : List PacketParts)
    → IsTaken old now bytes count (p ∷ ps) → end_of (note_of now.at p) ≤ greatest_end
next_within old now bytes count p ps t =
    let within = (packet_at-stands now.at t.left p t.stand.0).within in
    omega arith

-- it is noted
pub one_taken : (old now new : Piece) (bytes : List ℕ) (count : ℕ) (p : PacketParts) (ps : List PacketParts)
    → IsTaken old now bytes count (p ∷ ps) → NotesOne now new (note_of now.at p) → IsTaken old new bytes (count + 1) ps
one_taken old now new bytes count p ps t one =
    let size = size_of p in
    let x = take size t.left in
    let there = packet_at-stands now.at t.left p t.stand.0 in
    let room = there.room in
    let some = t.some in
    let before = t.at in
    let long = length-append t.done x in
    let cut = length-take size t.left in
    let ends : new.at ≡ now.at + size = one.at ∙ (let e : end_of (note_of now.at p) ≡ now.at + size = omega arith in e) in
    record {
      done = t.done ++ x;
      left = drop size t.left;
      split = t.split ∙ ap (λ (l : List ℕ). t.done ++ l) (sym (take-append-drop size t.left))
          ∙ sym (append_assoc t.done x (drop size t.left));
      fed = Feeds-trans old now new t.done x t.fed
          (one_fed now new t.left p t.scan t.stop t.value t.head t.stand.0 one);
      some = omega (arith, long, cut, room, some);
      at = omega (arith, ends, before, long, cut, room);
      stand = subst (λ (a : ℕ). StandAtFront a (drop size t.left) ps) (sym ends) t.stand.1;
      scan = one.scan ∙ t.scan;
      stop = one.stop ∙ t.stop;
      value = one.value ∙ t.value;
      head = one.head ∙ t.head;
    }

-- ---- the turns of the loop

-- the packet of this turn is the next
pub turned : (old now : Piece) (bytes : List ℕ) (k : ℕ) (ps : List PacketParts) (p : PacketParts)
    → IsTaken old now bytes k (drop k ps) → k < length ps → p ≡ get_or ps k p → IsTaken old now bytes k (p ∷ drop (k + 1) ps)
turned old now bytes k ps p t h is =
    subst (IsTaken old now bytes k) (drop_more ps k p h ∙ ap (λ (q : PacketParts). q ∷ drop (k + 1) ps) (sym is)) t

-- ---- a step

-- memory ran out before any byte was taken
pub taking_none : (old new : Piece) (bytes : List ℕ) → NotesNone old new → Fails old new bytes
taking_none old new bytes none scan o m fed = (
  [],
  bytes,
  refl,
  subst (λ (t : List ℕ). Knows scan o t new) (sym (append-nil m)) (record {
    taken_by = none.scan ∙ fed.knows.taken_by;
    notes = none.notes ∙ fed.knows.notes;
    at = none.at ∙ fed.knows.at;
  }),
)

pub some_of_front : {E : Type 0} (old new : Piece) (bytes : List ℕ) (r : Result ℕ E) → TakesFront old new bytes r
    → TakesSome old new bytes r
some_of_front old new bytes (Ok n) h = h
some_of_front old new bytes (Err e) none = taking_none old new bytes none
