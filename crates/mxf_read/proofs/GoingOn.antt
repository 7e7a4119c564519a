-- The rest of a piece from one of its packets on.
use Rattle.mxf_views.proofs.Common.{◌≡◌, ℕ, zero, suc, ◌+◌, ◌-◌, ◌≤◌, List, ◌∷◌, ◌++◌, length, take, drop}
use Rattle.mxf_views.proofs.Common.{length-append, Option, None, Some, Result, Ok, Err, refl, sym, ap, subst, ◌∙◌}
use Rattle.mxf_views.proofs.Common.{arith, append_assoc, slice_get, IsSomeAnd, drop-drop, length-drop}
use Rattle.mxf_views.proofs.Common.{take-append-le, NoteParts, PacketParts, note_of, size_of, end_after, notes_from}
use Rattle.mxf_views.proofs.Common.{heads_at, notes_in, packet_at, packets_in, rest_in, stop_in, stop_of, head-size}
use Rattle.mxf_views.proofs.Common.{ends_at, goes_on, packets_in-none, packets_in-some, seam, notes_from-append}
use Rattle.mxf_views.proofs.Common.{reduced_union, History, Absorb, Cut, content}
use Rattle.mxf_klv.specs.PieceReading.{GoesOn}
use Rattle.mxf_read.specs.declared.report.Report.{Report}
use Rattle.mxf_read.specs.declared.report.AbsorbFault.{AbsorbFault}
use Rattle.mxf_read.specs.declared.report.AbsorbFault.TheVariants.{OutOfMemory, ReadFault}
use Rattle.mxf_read.specs.Absorbs.{AbsorbsFrom, Absorbs, AddsFirst, GoesOnAt, first_notes_in, history_with}
use Rattle.mxf_read.specs.Reads.{Takes}
use Rattle.mxf_read.proofs.Pieces.{head_begins, heads_few, notes_for_packets}
use Rattle.mxf_read.proofs.Taking.{union_append}

-- what is left from the offset on has the other notes and the stop, and so many bytes at least
pub record Continues (left noted offset : ℕ) (bytes : List ℕ) (at : ℕ) : Type 0 where
  pub from : offset ≤ at
  pub within : at + left ≤ offset + length bytes
  pub notes : notes_in offset bytes ≡ first_notes_in noted offset bytes ++ notes_in at (drop (at - offset) bytes)
  pub count : length (packets_in offset bytes) ≡ noted + length (packets_in at (drop (at - offset) bytes))
  pub stop : stop_in offset bytes ≡ stop_in at (drop (at - offset) bytes)

-- at its own offset it is the piece
from_its_start : (left offset : ℕ) (bytes : List ℕ) (at : ℕ) → offset ≡ at → left ≤ length bytes
    → Continues left zero offset bytes at
from_its_start left offset bytes at e some = grind (arith, notes_in, drop, length, packets_in, stop_in)

-- a packet further on
one_further : (left noted offset : ℕ) (bytes : List ℕ) (at : ℕ) (p : PacketParts) (size : ℕ)
    → GoesOn offset bytes p size → packets_in offset bytes ≡ p ∷ packets_in (offset + size) (drop size bytes)
    → Continues left noted (offset + size) (drop size bytes) at → Continues left (suc noted) offset bytes at
one_further left noted offset bytes at p size g packets r =
    grind (arith, note_of, drop, drop-drop, take, length-drop, notes_in, length, packets_in, stop_in)

-- where no packet stands at the front the first note is the head of what does, and there is no other
at_head : (count offset : ℕ) (bytes : List ℕ) (at : ℕ) → packet_at offset bytes ≡ None → GoesOnAt count offset bytes at
    → (count ≡ 0) × (offset ≡ at) × (1 ≤ length bytes)
at_head count offset bytes at none h = grind (arith, ends_at, stop_of, heads_few, slice_get, head-size, head_begins)

-- behind so many of its packets, where the next note stands
pub continues : (noted offset : ℕ) (bytes : List ℕ) (at : ℕ) → GoesOnAt noted offset bytes at
    → Continues 1 noted offset bytes at
continues zero offset bytes at h =
    elim (packet_at offset bytes) as (λ o. packet_at offset bytes ≡ o → Continues 1 zero offset bytes at) [
      | None ↦ λ e.
          let head = at_head zero offset bytes at e h in
          from_its_start 1 offset bytes at head.1 head.2
      | Some p ↦ λ e.
          let g = goes_on offset bytes p (size_of p) e refl in
          let some = g.some in
          let room = g.room in
          from_its_start 1 offset bytes at
          (subst (λ (l : List NoteParts). IsSomeAnd (slice_get l zero) (λ n. n.offset ≡ at)) g.notes h) (omega arith)
    ] refl
continues (suc noted) offset bytes at h =
    elim (packet_at offset bytes) as (λ o. packet_at offset bytes ≡ o → Continues 1 (suc noted) offset bytes at) [
      | None ↦ λ e. absurd (let head = at_head (suc noted) offset bytes at e h in let none = head.0 in omega arith)
      | Some p ↦ λ e.
          let g = goes_on offset bytes p (size_of p) e refl in
          one_further 1 noted offset bytes at p (size_of p) g (packets_in-some offset bytes p e)
          (continues noted (offset + size_of p) (drop (size_of p) bytes) at
          (subst (λ (l : List NoteParts). IsSomeAnd (slice_get l (suc noted)) (λ n. n.offset ≡ at)) g.notes h))
    ] refl

-- behind so many of its packets, whether another follows or not
continues_behind : (noted offset : ℕ) (bytes : List ℕ) (at : ℕ) → noted ≤ length (packets_in offset bytes)
    → end_after offset (take noted (packets_in offset bytes)) ≡ at → Continues 0 noted offset bytes at
continues_behind zero offset bytes at h e = from_its_start 0 offset bytes at e (omega arith)
continues_behind (suc noted) offset bytes at h e =
    elim (packet_at offset bytes) as (λ o. packet_at offset bytes ≡ o → Continues 0 (suc noted) offset bytes at) [
      | None ↦ λ none. absurd (omega (arith, ap length (packets_in-none offset bytes none)))
      | Some p ↦ λ some.
          let ps = packets_in-some offset bytes p some in
          one_further 0 noted offset bytes at p (size_of p) (goes_on offset bytes p (size_of p) some refl) ps
          (continues_behind noted (offset + size_of p) (drop (size_of p) bytes) at (omega (arith, ap length ps))
          (sym (ap (λ (qs : List PacketParts). end_after offset (take (suc noted) qs)) ps) ∙ e))
    ] refl

-- a refused call and one of the rest leave what one of the whole piece does
pub completes : (h : History) (noted offset : ℕ) (bytes : List ℕ) (at : ℕ) → GoesOnAt noted offset bytes at
    → content (Absorb (Cut h offset bytes noted) at (drop (at - offset) bytes)) ≡ content (Absorb h offset bytes)
completes h noted offset bytes at g =
    grind (arith, continues, union_append, content, first_notes_in, notes_in, drop, reduced_union)

-- what a refused call that took these bytes noted, and the rest of the whole piece from there on
pub record CompletedBy (old new : List NoteParts) (offset : ℕ) (whole : List ℕ) (noted at : ℕ) : Type 0 where
  pub from : offset ≤ at
  pub content : reduced_union new (notes_in at (drop (at - offset) whole)) ≡ reduced_union old (notes_in offset whole)
  pub count : length (packets_in offset whole) ≡ noted + length (packets_in at (drop (at - offset) whole))
  pub stop : stop_in offset whole ≡ stop_in at (drop (at - offset) whole)

-- more bytes leave the first packets
first_stay : (noted offset : ℕ) (taken more : List ℕ) → noted ≤ length (packets_in offset taken)
    → (noted ≤ length (packets_in offset (taken ++ more)))
    × (take noted (packets_in offset (taken ++ more)) ≡ take noted (packets_in offset taken))
    × (first_notes_in noted offset (taken ++ more) ≡ first_notes_in noted offset taken)
first_stay noted offset taken more h =
    let ps = packets_in offset taken in
    let joined = (seam offset taken more).packets in
    let others = packets_in (end_after offset ps) (rest_in offset taken ++ more) in
    let behind = notes_from (end_after offset ps) others in
    let heads = λ (m : List ℕ). heads_at (end_after offset (packets_in offset m)) (rest_in offset m) in
    let whole = taken ++ more in
    let size = notes_for_packets offset ps in
    let notes : notes_in offset whole ≡ notes_from offset ps ++ (behind ++ heads whole) =
    ap (λ (l : List NoteParts). l ++ heads whole) (ap (notes_from offset) joined ∙ notes_from-append offset ps others)
    ∙ append_assoc (notes_from offset ps) behind (heads whole) in (
      omega (arith, h, ap length joined, length-append ps others),
      ap (take noted) joined ∙ take-append-le noted ps others h,
      ap (take noted) notes ∙ take-append-le noted (notes_from offset ps) (behind
          ++ heads whole) (omega (arith, h, size))
          ∙ sym (take-append-le noted (notes_from offset ps) (heads taken) (omega (arith, h, size))),
    )

pub completed : (old new : List NoteParts) (offset : ℕ) (taken : List ℕ) (noted at : ℕ)
    → AddsFirst old new offset taken noted at → (more : List ℕ) → CompletedBy old new offset (taken ++ more) noted at
completed old new offset taken noted at a more =
    let whole = taken ++ more in
    let s = first_stay noted offset taken more a.within in
    let c = continues_behind noted offset whole at s.0 (ap (end_after offset) s.1 ∙ sym a.place) in
    let rest = drop (at - offset) whole in
    let first = first_notes_in noted offset taken in
    let notes : notes_in offset whole ≡ first ++ notes_in at rest =
    c.notes ∙ ap (λ (l : List NoteParts). l ++ notes_in at rest) s.2 in
    record {
      from = c.from;
      content = ap (λ (l : List NoteParts). reduced_union l (notes_in at rest)) a.added
          ∙ sym (union_append old first (notes_in at rest)) ∙ ap (reduced_union old) (sym notes);
      count = c.count;
      stop = c.stop;
    }

-- what is absorbed is the content of the history with the call
pub content_with : (h : History) (old new : List NoteParts) (offset : ℕ) (bytes : List ℕ)
    (r : Result Report AbsorbFault) → Absorbs old new offset bytes r → old ≡ content h
    → new ≡ content (history_with h offset bytes r)
content_with h old new offset bytes (Ok report) a e = a.0 ∙ ap (λ l. reduced_union l (notes_in offset bytes)) e
content_with h old new offset bytes (Err (OutOfMemory noted at)) a e =
    a.0 ∙ ap (λ l. reduced_union l (first_notes_in noted offset bytes)) e
content_with h old new offset bytes (Err (ReadFault noted at)) a e = absurd a

-- the same of bytes that a reader gave
pub content_from : (h : History) (old new : List NoteParts) (before after : Option (List ℕ)) (offset limit : ℕ)
    (r : Result Report AbsorbFault) → AbsorbsFrom old new before after offset limit r → old ≡ content h
    → (taken : List ℕ) × Takes before after limit taken × (new ≡ content (history_with h offset taken r))
content_from h old new before after offset limit (Ok report) (taken, takes, adds, ends) e =
    (taken, takes, content_with h old new offset taken (Ok report) adds e)
content_from h old new before after offset limit (Err (ReadFault noted at)) (taken, takes, adds, all, cut) e =
    (taken, takes, adds.added ∙ ap (λ (l : List NoteParts). reduced_union l (first_notes_in noted offset taken)) e)
content_from h old new before after offset limit (Err (OutOfMemory noted at)) (taken, takes, adds) e =
    (taken, takes, adds.added ∙ ap (λ (l : List NoteParts). reduced_union l (first_notes_in noted offset taken)) e)
