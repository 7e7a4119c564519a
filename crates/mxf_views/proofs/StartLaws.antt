-- Where the header metadata of a partition begin.
use Rattle.mxf_views.proofs.Common.{◌≡◌, ℕ, ◌+◌, ◌-◌, ◌<◌, ◌≤◌, true, List, Some, None, refl, sym, ap, subst, ◌∙◌}
use Rattle.mxf_views.proofs.Common.{arith, eqb-true, eq-eqb, ◌↔◌, ◌==◌, nat_le, find, is_some, count_by, option_map}
use Rattle.mxf_views.proofs.Common.{list_all, range_with_len, and_from, and_parts, NoteParts, end_of, kind_of, In}
use Rattle.mxf_views.proofs.Common.{primer_at, read_as, IsContent, IsClear, SharesByte, clear_notes, In-clear_notes}
use Rattle.mxf_views.proofs.Common.{IsStart, covered_of, is_fill_note, is_filled, is_primer, is_readable_primer}
use Rattle.mxf_views.proofs.Common.{is_start, zone_of, is_in_one, lies_in, AreApart-clear_notes, In-list_all, In-filter}
use Rattle.mxf_views.proofs.Common.{list_any-In, found-In, none_found, inl, inr, BatchParts, IsFilled, IsPrimerOf}
use Rattle.mxf_views.proofs.Common.{is_in_span, range-all, list_all-In, cases_order, clear_same, range-full}
use Rattle.mxf_views.proofs.Common.{three_parts}
use Rattle.std.proofs.Common.{le-leb, leb-true}
use Rattle.mxf_views.specs.Copies.{start_of}
use Rattle.mxf_views.proofs.KindLaws.{fill_kind, primer_kind}
use Rattle.mxf_views.proofs.ReadingLaws.{is_some_readable}
use Rattle.mxf_views.proofs.SpanCounts.{in_span, in_span-says, zone-count}
use Rattle.mxf_klv.proofs.Tests.{all_three}
use Rattle.mxf_klv.specs.declared.kinds.Kind.TheVariants as kinds

pub fill_note : (n : NoteParts) → (is_fill_note n ≡ true) ↔ (kind_of n.key ≡ kinds.Fill)
unfolding is_fill_note
fill_note n = fill_kind (kind_of n.key)

pub primer_note : (n : NoteParts) → (is_readable_primer n ≡ true) ↔ ((pack : BatchParts) × IsPrimerOf n pack)
unfolding is_readable_primer
primer_note n =
    let k = primer_kind (kind_of n.key) in
    let r = is_some_readable primer_at n in (
      λ h.
          let p = and_parts (is_primer (kind_of n.key)) (is_some (read_as primer_at n)) h in
          let s = r.0 p.1 in
          (s.0, (k.0 p.0, s.1)),
      λ s. and_from (is_primer (kind_of n.key)) (is_some (read_as primer_at n)) (k.1 s.1.0) (r.1 (s.0, s.1.1)),
    )

-- no start lies in a fill
pub not_in_fill : (notes : List NoteParts) (end reached s : ℕ) → IsStart notes end s → IsFilled notes end reached s → ⊥
not_in_fill notes end reached s a f = grind (arith, clear_same)

-- no primer stands before a start
not_before : (notes : List NoteParts) (end s t : ℕ) → IsStart notes end s → IsStart notes end t → s < t → ⊥
not_before notes end s t a b l = not_in_fill notes end t s a (b.filled s a.after l)

pub one_start : (notes : List NoteParts) (end s t : ℕ) → IsStart notes end s → IsStart notes end t → s ≡ t
one_start notes end s t a b =
    elim (cases_order s t) [
      | inl e ↦ e
      | inr (inl l) ↦ absurd (not_before notes end s t a b l)
      | inr (inr l) ↦ absurd (not_before notes end t s b a l)
    ]

-- a tested start is one
tested : (notes : List NoteParts) (end : ℕ) (n : NoteParts) → IsContent notes → In n (clear_notes notes)
    → is_start end (clear_notes notes) n ≡ true → IsStart notes end n.offset
tested notes end n r h t =
    let clear = clear_notes notes in
    let p = three_parts (is_readable_primer n) (nat_le end n.offset) (is_filled end (n.offset - end) clear) t in
    let le : end ≤ n.offset = leb-true end n.offset p.1 in
    let len = n.offset - end in
    let zone = zone_of end len clear in
    let f = and_parts (covered_of end len clear == len) (list_all is_fill_note zone) p.2 in
    let count : count_by (is_in_one zone) (range_with_len end len) ≡ len = sym
    (zone-count clear 0 end len (AreApart-clear_notes notes r)) ∙ eqb-true (covered_of end len clear) len f.0 in
    record {
      primer = n;
      clear = (In-clear_notes n notes).0 h;
      readable = (primer_note n).0 p.0;
      there = refl;
      after = le;
      filled = λ o from before.
          let k = (list_any-In (is_in_span o) zone).0
          (range-full (is_in_one zone) end len count o from (omega arith)) in
          let m = k.0 in
          let z = (In-filter (lies_in end len) clear m).0 k.1 in
          let l = and_parts (nat_le end m.offset) (nat_le (end_of m) (end + len)) z.1 in
          let b : end_of m ≤ end + len = leb-true (end_of m) (end + len) l.1 in
          let s = in_span-says o m k.2 in
          let s1 : o < end_of m = s.1 in
          record {
            fill = m;
            clear = (In-clear_notes m notes).0 z.0;
            kind = (fill_note m).0 (list_all-In is_fill_note zone m f.1 k.1);
            from = leb-true end m.offset l.0;
            before = omega arith;
            within = record { from = s.0; before = omega arith };
          };
    }

-- a start passes the test
passes : (notes : List NoteParts) (end s : ℕ) → IsContent notes → (a : IsStart notes end s)
    → is_start end (clear_notes notes) a.primer ≡ true
passes notes end s r a =
    let clear = clear_notes notes in
    let n = a.primer in
    let there : n.offset ≡ s = a.there in
    let le : end ≤ s = a.after in
    let le2 : end ≤ n.offset = omega arith in
    let len = n.offset - end in
    let zone = zone_of end len clear in
    let in_zone = λ (m : NoteParts) (c : IsClear m notes) (low : end ≤ m.offset) (high : end_of m ≤ s).
    let h : end_of m ≤ end + len = omega arith in
    (In-filter (lies_in end len) clear m).1 (
      (In-clear_notes m notes).1 c,
      and_from (nat_le end m.offset) (nat_le (end_of m) (end + len))
          (le-leb end m.offset low) (le-leb (end_of m) (end + len) h),
    ) in
    let count : count_by (is_in_one zone) (range_with_len end len) ≡ len =
    range-all (is_in_one zone) end len (λ o from before.
    let f = a.filled o from (omega arith) in
    let w1 : o + 1 ≤ end_of f.fill = f.within.before in
    (list_any-In (is_in_span o) zone).1
    (f.fill, in_zone f.fill f.clear f.from f.before, in_span o f.fill f.within.from (omega arith))) in
    let covered : (covered_of end len clear == len) ≡ true = eq-eqb (covered_of end len clear) len
    (zone-count clear 0 end len (AreApart-clear_notes notes r) ∙ count) in
    let fills : list_all is_fill_note zone ≡ true = In-list_all is_fill_note zone (λ m h.
    let z = (In-filter (lies_in end len) clear m).0 h in
    let l = and_parts (nat_le end m.offset) (nat_le (end_of m) (end + len)) z.1 in
    let low : end ≤ m.offset = leb-true end m.offset l.0 in
    let high : end_of m ≤ end + len = leb-true (end_of m) (end + len) l.1 in
    let f = a.filled m.offset low (omega arith) in
    let shares : SharesByte m f.fill = (m.offset, record { from = omega arith; before = omega arith }, f.within) in
    let same = clear_same notes m f.fill ((In-clear_notes m notes).0 z.0) f.clear shares in
    (fill_note m).1 (ap (λ (x : NoteParts). kind_of x.key) same ∙ f.kind)) in
    all_three (is_readable_primer n) (nat_le end n.offset) (is_filled end len clear) ((primer_note n).1 a.readable)
    (le-leb end n.offset le2) (and_from (covered_of end len clear == len) (list_all is_fill_note zone) covered fills)

-- The start is found exactly where it stands.
pub start_is : (notes : List NoteParts) (end s : ℕ) → IsContent notes
    → (start_of end (clear_notes notes) ≡ Some s) ↔ IsStart notes end s
start_is notes end s r =
    let clear = clear_notes notes in
    elim (find (is_start end clear) clear) as (λ o. find (is_start end clear) clear ≡ o
    → (option_map (λ n. n.offset) o ≡ Some s) ↔ IsStart notes end s) [
      | None ↦ λ e. (
        λ k. absurd cc,
        λ a. absurd (none_found (is_start end clear) clear a.primer e ((In-clear_notes a.primer notes).1 a.clear)
            (passes notes end s r a)),
      )
      | Some n ↦ λ e.
          let f = found-In (is_start end clear) clear n e in
          let a = tested notes end n r f.0 f.1 in (
            λ k. let q : n.offset ≡ s = cc (k) in subst (IsStart notes end) q a,
            λ b. ap (λ (x : ℕ). Some x) (one_start notes end n.offset s a b),
          )
    ] refl
