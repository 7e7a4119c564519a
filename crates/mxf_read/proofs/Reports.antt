-- What is reported of a piece whose bytes come in parts, and what a reader's piece adds.
use Rattle.mxf_views.proofs.Common.{◌≡◌, ℕ, ◌+◌, ◌-◌, ◌≤◌, List, [], ◌∷◌, ◌++◌, length, take, Option, None, Some}
use Rattle.mxf_views.proofs.Common.{Result, Ok, Err, refl, sym, ap, subst, ◌∙◌, arith, inl, inr, ◌⊎◌, append-nil}
use Rattle.mxf_views.proofs.Common.{append_assoc, length-append, IsAtEnd, take-append-add, take_at, take_all, NoteParts}
use Rattle.mxf_views.proofs.Common.{head_parts, HasNoKeyAndLength, end_after, notes_from, IsOpen, heads_at, notes_in}
use Rattle.mxf_views.proofs.Common.{packets_in, rest_in, stop_in, stop_of, seam, notes_from-append, at_cut, stops}
use Rattle.mxf_views.proofs.Common.{heads_at-cut, reduced_union, reduced_with}
use Rattle.mxf_klv.specs.declared.piece.Stop.{Stop}
use Rattle.mxf_klv.specs.declared.piece.Stop.TheVariants.{End, NotUl, BadLength, TooFar, Truncated, NoStart}
use Rattle.std.specs.Prelude.{true, false, is_some, nat_eq, IfOk, IfSome}
use Rattle.std.proofs.lemmas.Bool.{eqb-true}
use Rattle.mxf_klv.proofs.MoreBytes.{stop_is, stop_stays}
use Rattle.mxf_klv.proofs.CutHeads.{heads_at-none}
use Rattle.mxf_read.proofs.Pieces.{alone_first, alone_in, alone_packets, closed_notes, no_heads, notes_for_packets}
use Rattle.mxf_read.proofs.Taking.{union_append}
use Rattle.mxf_read.specs.Absorbs.{Absorbs, AbsorbsFrom, AddsFirst, Finishes, report_of}
use Rattle.mxf_read.specs.Feeding.{Fed, IsNext, Knows, NotesNone}
use Rattle.mxf_read.specs.declared.coming.ComingValue.{ComingValue}
use Rattle.mxf_read.specs.Reads.{ReadsAll, Takes}
use Rattle.mxf_read.specs.declared.piece.Piece.{Piece}
use Rattle.mxf_read.specs.declared.report.Report.{Report}
use Rattle.mxf_read.specs.declared.report.AbsorbFault.{AbsorbFault}
use Rattle.mxf_read.specs.declared.report.AbsorbFault.TheVariants.{OutOfMemory, ReadFault}
use Rattle.mxf_read.proofs.Feeding.{awaits, holds}
use Rattle.mxf_read.proofs.Scans.{noted_count, noted_in}
use Rattle.mxf_skim.specs.PassedOver.{noted_by}
use Rattle.mxf_skim.specs.declared.scan.Scan.{Scan}
use Rattle.mxf_skim.specs.declared.scan.Scan.TheVariants.{Full}
use Rattle.mxf_read.specs.declared.reading.Cause.TheVariants as causes

-- ---- the report

abbrev made : ℕ → Stop → Report
made noted stop = record { noted = noted; stop = stop }

pub count_noted : (scan : Scan) (o : ℕ) (m : List ℕ) (p : Piece) → Knows scan o m p → length p.notes ≡ length (packets_in o m)
count_noted scan o m p k =
    ap length k.notes ∙ noted_count scan (notes_from o (packets_in o m)) ∙ notes_for_packets o (packets_in o m)

reported : (scan : Scan) (o : ℕ) (m : List ℕ) (p : Piece) (noted : ℕ) (stop : Stop) → Knows scan o m p → noted ≡ length p.notes
    → stop ≡ stop_of p.at (rest_in o m) → made noted stop ≡ report_of o m
reported scan o m p noted stop k n s =
    let count : noted ≡ length (packets_in o m) = n ∙ count_noted scan o m p k in
    let is : stop ≡ stop_in o m = s ∙ ap (λ (a : ℕ). stop_of a (rest_in o m)) k.at in
    λ i. record { noted = count i; stop = is i }

pub report_stopped : (scan : Scan) (o : ℕ) (m : List ℕ) (p : Piece) (noted : ℕ) (stop : Stop) → Fed scan o m p → noted ≡ length p.notes
    → p.stop ≡ Some stop → made noted stop ≡ report_of o m
report_stopped scan o m p noted stop fed n e =
    let next : IsNext scan p.at (Some stop) p.value p.head.items (rest_in o m) =
    subst (λ (s : Option Stop). IsNext scan p.at s p.value p.head.items (rest_in o m)) e fed.next in
    reported scan o m p noted stop fed.knows n next.1

end_at : (at : ℕ) → stop_of at [] ≡ End
unfolding stop_of
end_at at = refl

pub nil_from : (xs : List ℕ) (n : ℕ) → n ≡ length xs → nat_eq n 0 ≡ true → xs ≡ []
nil_from [] n e t = refl
nil_from (x ∷ xs) n e t = let zero_is : n ≡ 0 = eqb-true n 0 t in absurd (omega (arith, e, zero_is))

pub report_end : (scan : Scan) (o : ℕ) (m : List ℕ) (p : Piece) (noted len : ℕ) → Fed scan o m p → noted ≡ length p.notes → p.stop ≡ None
    → p.value ≡ None → len ≡ length p.head.items → nat_eq len 0 ≡ true → made noted End ≡ report_of o m
report_end scan o m p noted len fed n stop value is empty =
    let h = holds scan o m p fed stop value in
    let nothing : rest_in o m ≡ [] = sym h.head ∙ nil_from p.head.items len is empty in
    reported scan o m p noted End fed.knows n (sym (end_at p.at) ∙ ap (stop_of p.at) (sym nothing))

open_cut : (at : ℕ) (r : List ℕ) → HasNoKeyAndLength r → IsOpen (stop_of at r) → (length r ≡ 0 → ⊥)
    → stop_of at r ≡ Truncated at
open_cut at r none cut some =
    elim (stop_of at r) as (λ s. stop_of at r ≡ s → IsOpen s → s ≡ Truncated at) [
      | End ↦ λ e o. absurd (some (ap length (stop_is at r End none e)))
      | Truncated place ↦ λ e o. ap (λ (n : ℕ). Truncated n) (stop_is at r (Truncated place) none e).0
      | NotUl place ↦ λ e o. absurd o
      | BadLength place ↦ λ e o. absurd o
      | TooFar place ↦ λ e o. absurd o
      | NoStart place ↦ λ e o. absurd o
    ] refl cut

pub report_cut_head : (scan : Scan) (o : ℕ) (m : List ℕ) (p : Piece) (noted len : ℕ) → Fed scan o m p → noted ≡ length p.notes
    → p.stop ≡ None → p.value ≡ None → len ≡ length p.head.items → nat_eq len 0 ≡ false
    → made noted (Truncated p.at) ≡ report_of o m
report_cut_head scan o m p noted len fed n stop value is some =
    let h = holds scan o m p fed stop value in
    let size = ap length h.head in
    reported scan o m p noted (Truncated p.at) fed.knows n (sym (open_cut p.at (rest_in o m) h.none h.cut
    (λ z. let zero_is : len ≡ 0 = is ∙ size ∙ z in
    let t : nat_eq len 0 ≡ true = ap (λ (k : ℕ). nat_eq k 0) zero_is in absurd (cc (t, some)))))

pub report_cut_value : (scan : Scan) (o : ℕ) (m : List ℕ) (p : Piece) (noted : ℕ) → Fed scan o m p → noted ≡ length p.notes
    → p.stop ≡ None → is_some p.value ≡ true → made noted (Truncated p.at) ≡ report_of o m
report_cut_value scan o m p noted fed n stop some = elim p.value as (λ w. p.value ≡ w → is_some w ≡ true
    → made noted (Truncated p.at) ≡ report_of o m) [
      | None ↦ λ e t. absurd cc
      | Some v ↦ λ e t.
          let a = awaits scan o m p v fed stop e in
          let r = rest_in o m in
          let within = v.within in
          let here = a.come.offset in
          let counted = a.come.taken.counted in
          let left = a.left in
          let cut = at_cut p.at r v.key a.come.after v.ber a.come.begins (omega arith) (omega arith) in
          reported scan o m p noted (Truncated p.at) fed.knows n (stops p.at r (Truncated p.at) cut).1
    ] refl some

-- ---- the head

-- a stop that the piece has come to isn't open
pub closed_next : (scan : Scan) (o : ℕ) (m : List ℕ) (p : Piece) → Fed scan o m p → is_some p.stop ≡ true → IsOpen (stop_in o m) → ⊥
closed_next scan o m p fed some o-pen =
    elim p.stop as (λ s. p.stop ≡ s → is_some s ≡ true → ⊥) [
      | None ↦ λ e t. absurd cc
      | Some stop ↦ λ e t.
          let next : IsNext scan p.at (Some stop) p.value p.head.items (rest_in o m) =
          subst (λ (s : Option Stop). IsNext scan p.at s p.value p.head.items (rest_in o m)) e fed.next in
          let r = report_stopped scan o m p (length p.notes) stop fed refl e in
          next.2 (subst IsOpen (sym (ap (λ (q : Report). q.stop) r)) o-pen)
    ] refl some

-- the packet whose value is coming is cut
pub coming_head : (scan : Scan) (o : ℕ) (m : List ℕ) (p : Piece) (v : ComingValue) → Fed scan o m p → p.stop ≡ None → p.value ≡ Some v
    → heads_at p.at (rest_in o m) ≡ head_parts v.offset v.key v.ber.width v.ber.value ∷ []
coming_head scan o m p v fed stop value =
    let a = awaits scan o m p v fed stop value in
    let within = v.within in
    let here = a.come.offset in
    let counted = a.come.taken.counted in
    let left = a.left in
    heads_at-cut p.at (rest_in o m) v.key a.come.after v.ber a.come.begins (omega arith) (omega arith)
    ∙ ap (λ (at : ℕ). head_parts at v.key v.ber.width v.ber.value ∷ []) (sym here)

-- bytes without a whole key and length have no head
pub held_head : (scan : Scan) (o : ℕ) (m : List ℕ) (p : Piece) → Fed scan o m p → p.stop ≡ None → p.value ≡ None
    → heads_at p.at (rest_in o m) ≡ []
held_head scan o m p fed stop value = heads_at-none p.at (rest_in o m) (holds scan o m p fed stop value).none

-- nor is there one behind a stop
pub stopped_head : (scan : Scan) (o : ℕ) (m : List ℕ) (p : Piece) → Fed scan o m p → is_some p.stop ≡ true
    → heads_at p.at (rest_in o m) ≡ []
stopped_head scan o m p fed some = no_heads p.at (rest_in o m) (λ t. closed_next scan o m p fed some
    (subst (λ (a : ℕ). IsOpen (stop_of a (rest_in o m))) fed.knows.at t))

pub same_with_none : (notes heads : List NoteParts) → heads ≡ [] → notes ≡ reduced_union notes heads
same_with_none notes heads e = ap (reduced_union notes) (sym e)

pub with_one_head : (old new heads : List NoteParts) (h n : NoteParts) → new ≡ reduced_with h old → h ≡ n
    → heads ≡ n ∷ [] → new ≡ reduced_union old heads
with_one_head old new heads h n e is one =
    e ∙ ap (λ (x : NoteParts). reduced_with x old) is ∙ ap (reduced_union old) (sym one)

-- ---- what was read

pub take_behind : (xs ys : List ℕ) (n : ℕ) → length xs ≤ n → take n (xs ++ ys) ≡ xs ++ take (n - length xs) ys
take_behind xs ys n h =
    let split : n ≡ length xs + (n - length xs) = omega arith in
    ap (λ (j : ℕ). take j (xs ++ ys)) split ∙ take-append-add xs ys (n - length xs)

-- a front of the bytes taken is a front of their packets
pub adds_front : (o : ℕ) (m x : List ℕ) (p : Piece) → Knows Full o m p
    → AddsFirst [] p.notes o (m ++ x) (length p.notes) p.at
adds_front o m x p k =
    let s = seam o m x in
    let ps = packets_in o m in
    let qs = packets_in (end_after o ps) (rest_in o m ++ x) in
    let behind = notes_from (end_after o ps) qs in
    let heads = heads_at (end_after o (packets_in o (m ++ x))) (rest_in o (m ++ x)) in
    let count = count_noted Full o m p k in
    let all : notes_in o (m ++ x) ≡ notes_from o ps ++ (behind ++ heads) =
    ap (λ (l : List NoteParts). l ++ heads) (ap (notes_from o) s.packets ∙ notes_from-append o ps qs)
    ∙ append_assoc (notes_from o ps) behind heads in
    let front : take (length p.notes) (notes_in o (m ++ x)) ≡ notes_from o ps =
    ap (take (length p.notes)) all
    ∙ take_at (notes_from o ps) (behind ++ heads) (length p.notes) (sym (ap length k.notes)) in
    let packets : take (length p.notes) (packets_in o (m ++ x)) ≡ ps =
    ap (take (length p.notes)) s.packets ∙ take_at ps qs (length p.notes) (sym count) in
    let size = ap length s.packets in
    record {
      within = omega (arith, count, size, length-append ps qs);
      added = k.notes ∙ sym front ∙ sym (alone_first (length p.notes) o (m ++ x));
      place = k.at ∙ ap (end_after o) (sym packets);
    }

-- the state where a read failed may go on
open_next : (scan : Scan) (o : ℕ) (m : List ℕ) (p : Piece) → Fed scan o m p → p.stop ≡ None → IsOpen (stop_in o m)
open_next scan o m p fed stop =
    elim p.value as (λ w. p.value ≡ w → IsOpen (stop_in o m)) [
      | None ↦ λ e. subst (λ (a : ℕ). IsOpen (stop_of a (rest_in o m))) fed.knows.at (holds scan o m p fed stop e).cut
      | Some v ↦ λ e.
          let some : is_some p.value ≡ true = ap is_some e in
          let r = report_cut_value scan o m p (length p.notes) fed refl stop some in
          subst IsOpen (ap (λ (t : Report). t.stop) r) tt
    ] refl

-- the head that was added is the piece's
pub heads_added : (o : ℕ) (m : List ℕ) (p q : Piece) → Knows Full o m p
    → q.notes ≡ reduced_union p.notes (heads_at p.at (rest_in o m)) → q.notes ≡ reduced_union [] (notes_in o m)
heads_added o m p q k e =
    let ps = packets_in o m in
    let heads = heads_at (end_after o ps) (rest_in o m) in
    e ∙ ap (λ (a : ℕ). reduced_union p.notes (heads_at a (rest_in o m))) k.at
    ∙ ap (λ (l : List NoteParts). reduced_union l heads) (k.notes ∙ sym (alone_packets o ps))
    ∙ sym (union_append [] (notes_from o ps) heads)

pub scanned_added : (scan : Scan) (o : ℕ) (m : List ℕ) (p q : Piece) → Knows scan o m p
    → q.notes ≡ reduced_union p.notes (heads_at p.at (rest_in o m))
    → q.notes ≡ reduced_union [] (noted_by scan (notes_in o m))
scanned_added scan o m p q k e =
    e ∙ ap (λ (a : ℕ). reduced_union p.notes (heads_at a (rest_in o m))) k.at
    ∙ ap (λ (l : List NoteParts). reduced_union l (heads_at (end_after o (packets_in o m)) (rest_in o m))) k.notes
    ∙ noted_in scan o m

pub finished : (o : ℕ) (m : List ℕ) (p q : Piece) (report : Report) → Fed Full o m p → report ≡ report_of o m
    → q.notes ≡ reduced_union p.notes (heads_at p.at (rest_in o m)) → Finishes o m q.notes (Ok report)
finished o m p q report fed is e = (heads_added o m p q fed.knows e, is)

-- it found no memory
pub unfinished : (o : ℕ) (m : List ℕ) (p q : Piece) (report : Report) (at : ℕ) → Fed Full o m p → report ≡ report_of o m
    → NotesNone p q → at ≡ q.at → Finishes o m q.notes (Err (OutOfMemory report.noted at))
unfinished o m p q report at fed is none here =
    let k : Knows Full o m q = record {
      taken_by = none.scan ∙ fed.knows.taken_by;
      notes = none.notes ∙ fed.knows.notes;
      at = none.at ∙ fed.knows.at;
    } in
    let noted : length q.notes ≡ report.noted =
    count_noted Full o m q k ∙ sym (ap (λ (r : Report). r.noted) is) in
    subst (λ (j : ℕ). AddsFirst [] q.notes o m j at) noted
    (subst (λ (b : ℕ). AddsFirst [] q.notes o m (length q.notes) b) (sym here)
    (subst (λ (t : List ℕ). AddsFirst [] q.notes o t (length q.notes) q.at) (append-nil m) (adds_front o m [] q k)))

-- a stop that may be gone on behind comes where no more bytes may be taken
pub filled_end : (o limit : ℕ) (before after : Option (List ℕ)) (p q : Piece) (notes : List NoteParts)
    (r : Result Report AbsorbFault) → Fed Full o [] p → ReadsAll before after p q limit (Ok tt)
    → ((m : List ℕ) → Fed Full o m q → Finishes o m notes r) → AbsorbsFrom [] notes before after o limit r
filled_end o limit before after p q notes (Ok report) start h tells =
    let (taken, takes, feeds, ends) = h in
    let fed = feeds Full o [] start in
    let adds = tells taken fed in (
      taken,
      takes,
      adds,
      λ goes. elim ends [
        | inl e ↦ e
        | inr stopped ↦
            absurd (closed_next Full o taken q fed stopped (subst IsOpen (ap (λ (r : Report). r.stop) adds.1) goes))
      ],
    )
filled_end o limit before after p q notes (Err (OutOfMemory noted at)) start h tells =
    let (taken, takes, feeds, ends) = h in
    (taken, takes, tells taken (feeds Full o [] start))
filled_end o limit before after p q notes (Err (ReadFault noted at)) start h tells =
    let (taken, takes, feeds, ends) = h in
    absurd (tells taken (feeds Full o [] start))

pub filled_fault : (o limit : ℕ) (before after : Option (List ℕ)) (p q : Piece) (noted at : ℕ) → Fed Full o [] p
    → ReadsAll before after p q limit (Err causes.ReadFault) → noted ≡ length q.notes → at ≡ q.at
    → AbsorbsFrom [] q.notes before after o limit (Err (ReadFault noted at))
filled_fault o limit before after p q noted at start h n a =
    let (taken, takes, feeds, stop) = h in
    let fed = feeds Full o [] start in
    let adds = subst (λ (t : List ℕ). AddsFirst [] q.notes o t (length q.notes) q.at) (append-nil taken)
    (adds_front o taken [] q fed.knows) in (
      taken,
      takes,
      subst (λ (k : ℕ). AddsFirst [] q.notes o taken k at) (sym n)
          (subst (λ (b : ℕ). AddsFirst [] q.notes o taken (length q.notes) b) (sym a) adds),
      n ∙ count_noted Full o taken q fed.knows,
      open_next Full o taken q fed stop,
    )

pub filled_memory : (o limit : ℕ) (before after : Option (List ℕ)) (p q : Piece) (noted at : ℕ) → Fed Full o [] p
    → ReadsAll before after p q limit (Err causes.OutOfMemory) → noted ≡ length q.notes → at ≡ q.at
    → AbsorbsFrom [] q.notes before after o limit (Err (OutOfMemory noted at))
filled_memory o limit before after p q noted at start h n a =
    let (taken, takes, fails) = h in
    let (done, left, split, k) = fails Full o [] start in
    let adds = subst (λ (t : List ℕ). AddsFirst [] q.notes o t (length q.notes) q.at) (sym split)
    (adds_front o done left q k) in (
      taken,
      takes,
      subst (λ (j : ℕ). AddsFirst [] q.notes o taken j at) (sym n)
          (subst (λ (b : ℕ). AddsFirst [] q.notes o taken (length q.notes) b) (sym a) adds),
    )

-- ---- a piece as a whole

adds_first_merged : (old piece new : List NoteParts) (o : ℕ) (m : List ℕ) (noted at : ℕ)
    → AddsFirst [] piece o m noted at → new ≡ reduced_union old piece → AddsFirst old new o m noted at
adds_first_merged old piece new o m noted at a e = record {
  within = a.within;
  added = e ∙ ap (reduced_union old) (a.added ∙ alone_first noted o m);
  place = a.place;
}

-- what a piece's own catalogue has, joined with another
pub from_merged : (old piece new : List NoteParts) (before after : Option (List ℕ)) (o limit : ℕ)
    (r : Result Report AbsorbFault) → AbsorbsFrom [] piece before after o limit r → new ≡ reduced_union old piece
    → AbsorbsFrom old new before after o limit r
from_merged old piece new before after o limit (Ok report) (taken, takes, adds, ends) e =
    (taken, takes, (e ∙ ap (reduced_union old) (adds.0 ∙ alone_in o taken), adds.1), ends)
from_merged old piece new before after o limit (Err (ReadFault noted at)) (taken, takes, adds, all, cut) e =
    (taken, takes, adds_first_merged old piece new o taken noted at adds e, all, cut)
from_merged old piece new before after o limit (Err (OutOfMemory noted at)) (taken, takes, adds) e =
    (taken, takes, adds_first_merged old piece new o taken noted at adds e)

-- the bytes that were taken, whatever came of them
taken_of : (old new : List NoteParts) (before after : Option (List ℕ)) (o limit : ℕ) (r : Result Report AbsorbFault)
    → AbsorbsFrom old new before after o limit r → (taken : List ℕ) × Takes before after limit taken
taken_of old new before after o limit (Ok report) h = (h.0, h.1)
taken_of old new before after o limit (Err (ReadFault noted at)) h = (h.0, h.1)
taken_of old new before after o limit (Err (OutOfMemory noted at)) h = (h.0, h.1)

-- where they aren't joined, none is added
pub from_none : (old piece new : List NoteParts) (before after : Option (List ℕ)) (o limit : ℕ)
    (r : Result Report AbsorbFault) → AbsorbsFrom [] piece before after o limit r → new ≡ old
    → AbsorbsFrom old new before after o limit (Err (OutOfMemory 0 o))
from_none old piece new before after o limit r h e =
    let (taken, takes) = taken_of [] piece before after o limit r h in
    (taken, takes, record { within = omega arith; added = e; place = refl })

-- ---- the stream

pub adds_more : (old new : List NoteParts) (o : ℕ) (m x : List ℕ) (report : Report) → Absorbs old new o m (Ok report)
    → (IsOpen report.stop → ⊥) → Absorbs old new o (m ++ x) (Ok report)
adds_more old new o m x report a final =
    let closed : IsOpen (stop_in o m) → ⊥ =
    λ t. final (subst IsOpen (sym (ap (λ (r : Report). r.stop) a.1)) t) in
    let s = stop_stays o m x closed in
    let same : notes_in o m ≡ notes_in o (m ++ x) =
    closed_notes o m closed ∙ ap (notes_from o) (sym s.0)
    ∙ sym (closed_notes o (m ++ x) (λ t. closed (subst IsOpen s.1 t))) in (
      a.0 ∙ ap (reduced_union old) same,
      a.1 ∙ (λ i. record { noted = length (sym s.0 i); stop = sym s.1 i }),
    )

open_or_not : (s : Stop) → IsOpen s ⊎ (IsOpen s → ⊥)
open_or_not End = inl tt
open_or_not (Truncated place) = inl tt
open_or_not (NotUl place) = inr (λ t. t)
open_or_not (BadLength place) = inr (λ t. t)
open_or_not (TooFar place) = inr (λ t. t)
open_or_not (NoStart place) = inr (λ t. t)

pub whole_taken : (before after : Option (List ℕ)) (limit : ℕ) (taken : List ℕ) → Takes before after limit taken
    → (length taken ≡ limit) ⊎ IsAtEnd after → IfSome before (λ all. take limit all ≡ taken)
whole_taken None after limit taken t e = tt
whole_taken (Some xs) None limit taken t e = absurd t.consumed
whole_taken (Some xs) (Some ys) limit taken t (inl e) = ap (take limit) t.consumed ∙ take_at taken ys limit e
whole_taken (Some xs) (Some ys) limit taken t (inr e) =
    let all : xs ≡ taken = t.consumed ∙ ap (λ (l : List ℕ). taken ++ l) e ∙ append-nil taken in
    let within = t.within in
    ap (take limit) all ∙ take_all limit taken within

pub front_taken : (before after : Option (List ℕ)) (limit : ℕ) (taken : List ℕ) → Takes before after limit taken
    → IfSome before (λ all. (x : List ℕ) × (take limit all ≡ taken ++ x))
front_taken None after limit taken t = tt
front_taken (Some xs) None limit taken t = absurd t.consumed
front_taken (Some xs) (Some ys) limit taken t =
    let within = t.within in
    (take (limit - length taken) ys, ap (take limit) t.consumed ∙ take_behind taken ys limit within)

pub of_stream : (old new : List NoteParts) (before after : Option (List ℕ)) (o limit : ℕ)
    (r : Result Report AbsorbFault) → AbsorbsFrom old new before after o limit r
    → IfOk r (λ report. IfSome before (λ all. Absorbs old new o (take limit all) (Ok report)))
of_stream old new before after o limit (Err e) h = tt
of_stream old new None after o limit (Ok report) h = tt
of_stream old new (Some xs) after o limit (Ok report) (taken, takes, adds, ends) =
    elim (open_or_not report.stop) [
      | inl goes ↦
          subst (λ (t : List ℕ). Absorbs old new o t (Ok report)) (sym (whole_taken (Some xs) after limit taken takes
          (ends goes)))
          adds
      | inr final ↦
          let (x, split) = front_taken (Some xs) after limit taken takes in
          subst (λ (t : List ℕ). Absorbs old new o t (Ok report)) (sym split)
          (adds_more old new o taken x report adds final)
    ]
