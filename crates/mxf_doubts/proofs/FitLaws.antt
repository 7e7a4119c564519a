-- Where clear packets lie, and whether partitions count them right.
use Rattle.mxf_views.proofs.Common.{◌≡◌, ◌↔◌, ◌∙◌, ◌+◌, ◌≤◌, ◌<◌, ℕ, zero, suc, Bool, true, false, List, [], ◌∷◌, ◌&&◌, ◌||◌, ◌==◌}
use Rattle.mxf_views.proofs.Common.{sym, ap, refl, arith, length, map, nat_le, nat_lt, get_or, AllWithin, In, list_any, list_any-In}
use Rattle.mxf_views.proofs.Common.{and_from, and_parts, same_bool, le-leb, leb-true, lt-ltb, ltb-true, subst, cases_lt, inl, inr}
use Rattle.mxf_views.proofs.Common.{false_from_ne_true, IsTrue, Option, Some, None, NoteParts, end_of, covered_end, greatest_end, kind_of, cond}
use Rattle.mxf_views.proofs.Common.{option_map_or, find, max, range_with_len, IsCatalogue, IsNote, all-In, In-clear_notes, clear_notes}
use Rattle.mxf_views.proofs.Common.{IsNonDecreasingBy, IsPermutation, nat_cmp, union_of_runs, covered_run, Ordering, eqb-true, eq-eqb, ne_eqb, or_cases, ◌≢◌, PartitionParts}
use Rattle.mxf_views.proofs.Common.{In-undisputed_notes, find-none, filter, option_and_then, undisputed_notes}
use Rattle.mxf_places.proofs.StretchLaws.{over_none}
use Rattle.mxf_places.specs.Claims.{behind_metadata, metadata_of, over_fills}
use Rattle.std.proofs.lemmas.List.Sorted.{list_any-IsPermutation}
use Rattle.std.specs.List.Sorted.{IsSorted}
use Rattle.std.specs.Ordering.{ordering_index, ordering_then}
use Rattle.mxf_klv.proofs.Counts.{In-range}
use Rattle.mxf_klv.proofs.Lists.{In-at, In-list_all, list_all-In}
use Rattle.mxf_klv.proofs.Sides.{side_by, sides_rise}
use Rattle.std.proofs.lemmas.Cmp.{nat_cmp_total, on_total, then_total, tied_itself}
use Rattle.std.specs.Cmp.{IsTotalOrder}
use Rattle.mxf_catalogue.proofs.ApartLaws.{covers_all}
use Rattle.mxf_catalogue.specs.Disputes.{AreApart}
use Rattle.mxf_catalogue.specs.Runs.{LiesIn}
use Rattle.mxf_catalogue.specs.declared.run.Run.{Run}
use Rattle.mxf_views.specs.Places.{SegmentAtParts, is_segment, segments_of, without_entries}
use Rattle.mxf_doubts.specs.IndexFit.{AreClear, are_filled, begins_in, begins_segment, has_byte, has_own, is_clear_at}
use Rattle.mxf_doubts.specs.Header.{is_within, span_of}
use Rattle.mxf_doubts.specs.IndexFit.{first_behind, has_foreign, is_cut_at, is_foreign, is_index_misfit, own_pair}
use Rattle.mxf_views.specs.Partitions.{in_numbers}
use Rattle.mxf_doubts.specs.declared.spans.Span.{Span}
use Rattle.mxf_doubts.proofs.SpanLaws.{any_span}

-- ---- The bytes of clear packets

whole_end : (n : NoteParts) → IsTrue n.whole → covered_end n ≡ end_of n
whole_end n w = ap (λ b. cond b (end_of n) (n.offset + 16 + n.width)) w

-- The runs of clear packets have the bytes of these packets.
pub clear_runs : (notes : List NoteParts) → AreClear notes (union_of_runs [] (map covered_run (clear_notes notes)))
clear_runs notes x =
    let all = covers_all (clear_notes notes) x in
    let any = list_any-In (has_byte x) (clear_notes notes) in (
      λ h.
          let s = all.0 h in
          let e = whole_end s.0 ((In-clear_notes s.0 notes).0 s.1).whole in
          let from : s.0.offset ≤ x = s.2.from in
          let before : x + 1 ≤ covered_end s.0 = s.2.before in
          any.1 (s.0, s.1, and_from _ _ (le-leb _ _ from) (lt-ltb _ _ (omega (arith, before, e)))),
      λ t.
          let s = any.0 t in
          let e = whole_end s.0 ((In-clear_notes s.0 notes).0 s.1).whole in
          let both = and_parts (nat_le s.0.offset x) (nat_lt x (end_of s.0)) s.2 in
          let from = leb-true _ _ both.0 in
          let before = ltb-true _ _ both.1 in
          all.1 (s.0, s.1, record { from = from; before = omega (arith, before, e) }),
    )

pub range-In : (a n x : ℕ) → In x (range_with_len a n) → (a ≤ x) × (x < a + n)
range-In a zero x h = absurd h
range-In a (suc n) x (inl e) = (omega (arith, e), omega (arith, e))
range-In a (suc n) x (inr h) = let r = range-In (a + 1) n x h in (omega (arith, r.0), omega (arith, r.1))

-- Clear packets fill the bytes if all these bytes are those of clear packets.
pub all_filled : (notes : List NoteParts) (runs : List Run) (start bytes : ℕ) (b : Bool) → AreClear notes runs
    → (IsTrue b ↔ ((at : ℕ) → start ≤ at → at < start + bytes → LiesIn runs at)) → b ≡ are_filled notes start bytes
all_filled notes runs start bytes b c i =
    same_bool b (are_filled notes start bytes)
    (λ t. In-list_all (is_clear_at notes) (range_with_len start bytes)
    (λ x h. let r = range-In start bytes x h in (c x).0 (i.0 t x r.0 r.1)))
    (λ t. i.1 (λ at from before. (c at).1
    (list_all-In (is_clear_at notes) (range_with_len start bytes) at t (In-range start bytes at from before))))

-- No packet has a byte above all offsets.
pub far_filled : (notes : List NoteParts) (start bytes : ℕ) → IsCatalogue notes → 0 < bytes
    → greatest_end < start + bytes → are_filled notes start bytes ≡ false
far_filled notes start bytes is some far = false_from_ne_true (are_filled notes start bytes) (λ t.
    let x = max start greatest_end in
    let h = list_all-In (is_clear_at notes) (range_with_len start bytes) x t
    (In-range start bytes x (omega arith) (omega (arith, some, far))) in
    let s = (list_any-In (has_byte x) (clear_notes notes)).0 h in
    let note : IsNote s.0 = all-In IsNote notes s.0 is.members ((In-clear_notes s.0 notes).0 s.1).held in
    let end : s.0.offset + 16 + s.0.width + s.0.length ≤ greatest_end = note.within in
    let below = ltb-true _ _ (and_parts (nat_le s.0.offset x) (nat_lt x (end_of s.0)) s.2).1 in
    omega (arith, end, below))

-- ---- What goes on where the bytes end

abbrev cuts : ℕ → NoteParts → Bool
cuts x n = nat_lt n.offset x && nat_lt x (end_of n)

abbrev begins_at : ℕ → NoteParts → Bool
begins_at x n = (n.offset == x) && is_segment (kind_of n.key)

none_above : (low x : ℕ) (ns : List NoteParts) → AreApart low ns → x < low
    → (list_any (cuts x) ns ≡ false) × (list_any (begins_at x) ns ≡ false) × (list_any (has_byte x) ns ≡ false)
    × (find (λ n. n.offset == x) ns ≡ None)
none_above low x [] a l = (refl, refl, refl, refl)
none_above low x (n ∷ ns) a l =
    let rest = none_above (end_of n) x ns a.1 (omega (arith, a.0, l)) in
    let above : x < n.offset = omega (arith, a.0, l) in
    let less : nat_lt n.offset x ≡ false = false_from_ne_true (nat_lt n.offset x) (λ t.
    let u = ltb-true n.offset x t in omega (arith, u, above)) in
    let low : nat_le n.offset x ≡ false = false_from_ne_true (nat_le n.offset x) (λ t.
    let u = leb-true n.offset x t in omega (arith, u, above)) in
    let same : (n.offset == x) ≡ false = false_from_ne_true (n.offset == x) (λ t.
    let u = eqb-true n.offset x t in omega (arith, u, above)) in (
      ap (λ b. (b && nat_lt x (end_of n)) || list_any (cuts x) ns) less ∙ rest.0,
      ap (λ b. (b && is_segment (kind_of n.key)) || list_any (begins_at x) ns) same ∙ rest.1,
      ap (λ b. (b && nat_lt x (end_of n)) || list_any (has_byte x) ns) low ∙ rest.2,
      ap (λ b. cond b (Some n) (find (λ n. n.offset == x) ns)) same ∙ rest.3,
    )

not_less : (a b : ℕ) → b ≤ a → nat_lt a b ≡ false
not_less a b l = false_from_ne_true (nat_lt a b) (λ t. let u = ltb-true a b t in omega (arith, u, l))

not_at_most : (a b : ℕ) → b < a → nat_le a b ≡ false
not_at_most a b l = false_from_ne_true (nat_le a b) (λ t. let u = leb-true a b t in omega (arith, u, l))

or_false : (b : Bool) → (b || false) ≡ b
or_false true = refl
or_false false = refl

-- By the first packet alone, where none of the others begins at or before the offset.
first_tells : (x : ℕ) (n : NoteParts) (c b h : Bool) (f : Option NoteParts) → x < end_of n → c ≡ false → b ≡ false
    → h ≡ false → f ≡ None
    → ((cuts x n || c) || (begins_at x n || b))
    ≡ option_map_or (λ n. is_segment (kind_of n.key)) (cond (n.offset == x) (Some n) f) (has_byte x n || h)
first_tells x n c b h f before ec eb eh ef =
    let up = lt-ltb x (end_of n) before in
    elim (cases_lt n.offset x) [
      | inl l ↦ rw (up, lt-ltb n.offset x l, ne_eqb n.offset x (omega (arith, l)), le-leb n.offset x (omega (arith, l)), ef) refl
      | inr g ↦ elim (cases_lt x n.offset) [
        | inl m ↦ rw (
          not_less n.offset x g,
          ne_eqb n.offset x (λ e. omega (arith, m, e)),
          not_at_most n.offset x m,
          ec,
          eb,
          eh,
          ef,
        ) refl
        | inr k ↦
            let e : n.offset ≡ x = omega (arith, g, k) in
            rw (not_less n.offset x g, eq-eqb n.offset x e, ec, eb) (or_false (is_segment (kind_of n.key)))
      ]
    ]

-- By the others alone, where the first ends before the offset.
passes : (x : ℕ) (n : NoteParts) (c b h : Bool) (f : Option NoteParts) → end_of n ≤ x
    → (c || b) ≡ option_map_or (λ n. is_segment (kind_of n.key)) f h
    → ((cuts x n || c) || (begins_at x n || b))
    ≡ option_map_or (λ n. is_segment (kind_of n.key)) (cond (n.offset == x) (Some n) f) (has_byte x n || h)
passes x n c b h f behind rest =
    let l : n.offset < x = omega (arith, behind) in
    rw (
      lt-ltb n.offset x l,
      not_less x (end_of n) behind,
      ne_eqb n.offset x (omega (arith, l)),
      le-leb n.offset x (omega (arith, l)),
    ) rest

-- Where a packet begins, that is a segment; where none begins, some packet has the byte.
pub goes_on : (low x : ℕ) (ns : List NoteParts) → AreApart low ns
    → (list_any (cuts x) ns || list_any (begins_at x) ns)
    ≡ option_map_or (λ n. is_segment (kind_of n.key)) (find (λ n. n.offset == x) ns) (list_any (has_byte x) ns)
goes_on low x [] a = refl
goes_on low x (n ∷ ns) a = elim (cases_lt x (end_of n)) [
  | inl before ↦
      let none = none_above (end_of n) x ns a.1 before in
      first_tells x n _ _ _ _ before none.0 none.1 none.2 none.3
  | inr behind ↦ (
      let rest = goes_on (end_of n) x ns a.1 in
      passes x n _ _ _ _ behind rest)
]

pub goes_by : (notes : List NoteParts) (runs : List Run) (end : ℕ) (b : Bool) → AreApart 0 (clear_notes notes)
    → find (λ n. n.offset == end) (clear_notes notes) ≡ None → AreClear notes runs → (IsTrue b ↔ LiesIn runs end)
    → b ≡ (is_cut_at notes end || begins_segment notes end)
goes_by notes runs end b apart none clear i =
    same_bool b (is_clear_at notes end) (λ t. (clear end).0 (i.0 t)) (λ t. i.1 ((clear end).1 t))
    ∙ sym (ap (λ (o : Option NoteParts). option_map_or (λ n. is_segment (kind_of n.key)) o (is_clear_at notes end)) none)
    ∙ sym (goes_on 0 end (clear_notes notes) apart)

pub goes_at : (notes : List NoteParts) (end : ℕ) (n : NoteParts) → AreApart 0 (clear_notes notes)
    → find (λ n. n.offset == end) (clear_notes notes) ≡ Some n
    → is_segment (kind_of n.key) ≡ (is_cut_at notes end || begins_segment notes end)
goes_at notes end n apart found =
    sym (ap (λ (o : Option NoteParts). option_map_or (λ n. is_segment (kind_of n.key)) o (is_clear_at notes end)) found)
    ∙ sym (goes_on 0 end (clear_notes notes) apart)

-- ---- Packets that index tables don't have

pub foreign_within : (notes : List NoteParts) (foreign : List Span) (start bytes : ℕ)
    → foreign ≡ map span_of (filter (is_foreign notes) (clear_notes notes))
    → list_any (is_within bytes (Some start)) foreign ≡ has_foreign notes start bytes
foreign_within notes foreign start bytes e =
    ap (list_any (is_within bytes (Some start))) e
    ∙ sym (any_span bytes (Some start) (filter (is_foreign notes) (clear_notes notes)))

-- ---- Behind header metadata

-- No packet begins above all offsets.
pub far_first : (notes : List NoteParts) (p : PartitionParts) (begin : ℕ) → IsCatalogue notes
    → behind_metadata notes p ≡ Some begin → greatest_end < begin → None ≡ first_behind notes p
far_first notes p begin is e far =
    let apart : (n : NoteParts) → In n notes → n.offset ≢ begin = λ n h s.
    let note : IsNote n = all-In IsNote notes n is.members h in
    let end : n.offset + 16 + n.width + n.length ≤ greatest_end = note.within in omega (arith, end, far, s) in
    let over = over_none (undisputed_notes notes) begin (λ n h. apart n ((In-undisputed_notes n notes).0 h).0) in
    sym (ap (λ (o : Option ℕ). option_and_then (λ x. find (λ n. n.offset == over_fills notes x) (clear_notes notes)) o) e
    ∙ ap (λ x. find (λ n. n.offset == x) (clear_notes notes)) over
    ∙ find-none (λ (n : NoteParts). n.offset == begin) (clear_notes notes) (λ n h t.
    apart n ((In-clear_notes n notes).0 h).held (eqb-true n.offset begin t)))

-- What a pack states in numbers tells whether a partition counts right.
told_by_numbers : (notes : List NoteParts) (p : PartitionParts)
    → is_index_misfit notes (in_numbers p) ≡ is_index_misfit notes p
unfolding is_index_misfit metadata_of
told_by_numbers notes p = refl

pub by_numbers : (notes : List NoteParts) (ps : List PartitionParts)
    → map (λ p. p.offset) (filter (is_index_misfit notes) (map in_numbers ps))
    ≡ map (λ p. p.offset) (filter (is_index_misfit notes) ps)
by_numbers notes [] = refl
by_numbers notes (p ∷ ps) =
    let rest = by_numbers notes ps in
    let told = told_by_numbers notes p in
    elim (is_index_misfit notes p) as (λ b. is_index_misfit notes p ≡ b
    → map (λ p. p.offset) (cond (is_index_misfit notes (in_numbers p)) (in_numbers p ∷ filter (is_index_misfit notes) (map in_numbers ps))
    (filter (is_index_misfit notes) (map in_numbers ps)))
    ≡ map (λ p. p.offset) (cond b (p ∷ filter (is_index_misfit notes) ps) (filter (is_index_misfit notes) ps))) [
      | true ↦ λ e. rw (told ∙ e) (ap (λ l. p.offset ∷ l) rest)
      | false ↦ λ e. rw (told ∙ e) rest
    ] refl

-- ---- Searches

place_of : {A : Type 0} (x : A) (xs : List A) → In x xs → (i : ℕ) × (i < length xs) × ((d : A) → get_or xs i d ≡ x)
place_of x [] i = absurd i
place_of x (y ∷ xs) (inl e) = (0, omega arith, λ d. sym e)
place_of x (y ∷ xs) (inr i) = let r = place_of x xs i in (suc r.0, omega (arith, r.1), r.2)

module _ {A : Type 0} (hit : A → Bool) (xs : List A) (k : ℕ) (none : AllWithin (λ x. hit x ≡ false) xs 0 k) where
  -- A hit stands at the place or behind.
  behind : list_any hit xs ≡ true → (i : ℕ) × (k ≤ i) × (i < length xs) × ((d : A) → hit (get_or xs i d) ≡ true)
  behind t =
      let s = (list_any-In hit xs).0 t in
      let at = place_of s.0 xs s.1 in
      let high : k ≤ at.0 = elim (cases_lt at.0 k) [
        | inl l ↦ absurd (let b = none at.0 s.0 (omega arith) l in let e = ap hit (at.2 s.0) in cc (b, e, s.2))
        | inr m ↦ m
      ] in
      (at.0, high, at.1, λ d. ap hit (at.2 d) ∙ s.2)

  pub none_hit : length xs ≤ k → false ≡ list_any hit xs
  none_hit l = sym (false_from_ne_true (list_any hit xs) (λ t. let h = behind t in omega (arith, h.1, h.2, l)))

  pub first_hit : (s : A) → k < length xs → ((d : A) → s ≡ get_or xs k d)
      → ((j : ℕ) → k ≤ j → j < length xs → hit (get_or xs j s) ≡ true → hit s ≡ true) → hit s ≡ list_any hit xs
  first_hit s l same first =
      same_bool (hit s) (list_any hit xs)
      (λ t. (list_any-In hit xs).1 (s, subst (λ (y : A). In y xs) (sym (same s)) (In-at xs k s l), t))
      (λ t. let h = behind t in first h.0 h.1 h.2 (h.3 s))

-- Segments go by their offsets.
any_by_offset : (start end : ℕ) (ss : List SegmentAtParts)
    → list_any (begins_in start end) (map without_entries ss) ≡ list_any (begins_in start end) ss
any_by_offset start end [] = refl
any_by_offset start end (s ∷ ss) = ap (λ b. begins_in start end s || b) (any_by_offset start end ss)

below_none : (start end : ℕ) (xs : List SegmentAtParts) (k : ℕ) → AllWithin (λ (x : SegmentAtParts). x.offset < start) xs 0 k
    → AllWithin (λ (x : SegmentAtParts). begins_in start end x ≡ false) xs 0 k
below_none start end xs k below i d a h =
    let b = below i d a h in
    ap (λ c. c && nat_lt (get_or xs i d).offset end) (false_from_ne_true (nat_le start (get_or xs i d).offset) (λ t.
    let u = leb-true start (get_or xs i d).offset t in omega (arith, u, b)))

pub segment_hit : (start end : ℕ) (ss xs : List SegmentAtParts) (k : ℕ) (s : SegmentAtParts) → xs ≡ map without_entries ss
    → IsNonDecreasingBy (λ (x : SegmentAtParts). x.offset) xs → AllWithin (λ (x : SegmentAtParts). x.offset < start) xs 0 k
    → AllWithin (λ (x : SegmentAtParts). start ≤ x.offset) xs k (length xs) → k < length xs
    → ((d : SegmentAtParts) → s ≡ get_or xs k d) → nat_lt s.offset end ≡ list_any (begins_in start end) ss
segment_hit start end ss xs k s e up below above l same =
    let from : start ≤ s.offset =
    let a = above k s (omega arith) l in let q = ap (λ (y : SegmentAtParts). y.offset) (same s) in omega (arith, a, q) in
    ap (λ b. b && nat_lt s.offset end) (sym (le-leb _ _ from))
    ∙ first_hit (begins_in start end) xs k (below_none start end xs k below) s l same
    (λ j a h t.
    let m = up k j s a h in
    let q = ap (λ (y : SegmentAtParts). y.offset) (same s) in
    let y = get_or xs j s in
    let before = ltb-true y.offset end (and_parts (nat_le start y.offset) (nat_lt y.offset end) t).1 in
    and_from _ _ (le-leb _ _ from) (lt-ltb _ _ (omega (arith, m, q, before))))
    ∙ ap (list_any (begins_in start end)) e ∙ any_by_offset start end ss

pub no_segment_hit : (start end : ℕ) (ss xs : List SegmentAtParts) (k : ℕ) → xs ≡ map without_entries ss
    → AllWithin (λ (x : SegmentAtParts). x.offset < start) xs 0 k → length xs ≤ k
    → false ≡ list_any (begins_in start end) ss
no_segment_hit start end ss xs k e below l =
    none_hit (begins_in start end) xs k (below_none start end xs k below) l
    ∙ ap (list_any (begins_in start end)) e ∙ any_by_offset start end ss

-- Pairs go by the first, then by the second.
abbrev pub pair_cmp : ℕ × ℕ → ℕ × ℕ → Ordering
pair_cmp a b = ordering_then (nat_cmp a.0 b.0) (nat_cmp a.1 b.1)

abbrev pub is_own : ℕ → ℕ → ℕ → ℕ × ℕ → Bool
is_own index_sid start end p = (p.0 == index_sid) && (nat_le start p.1 && nat_lt p.1 end)

side_pair : (a b c d : ℕ) → nat_lt (ordering_index (ordering_then (nat_cmp a c) (nat_cmp b d))) 1
    ≡ (nat_lt a c || ((a == c) && nat_lt b d))
side_pair a b c d = grind (arith, nat_cmp)

any_own : (index_sid start end : ℕ) (ss : List SegmentAtParts)
    → list_any (is_own index_sid start end) (map own_pair ss)
    ≡ list_any (λ s. (s.segment.numbers.index_sid == index_sid) && begins_in start end s) ss
any_own index_sid start end [] = refl
any_own index_sid start end (s ∷ ss) =
    ap (λ b. ((s.segment.numbers.index_sid == index_sid) && begins_in start end s) || b) (any_own index_sid start end ss)

-- The sorted pairs of segments have what the segments have.
pub own_permuted : (notes : List NoteParts) (index_sid start end : ℕ) (pairs : List (ℕ × ℕ))
    → IsPermutation (map own_pair (segments_of notes)) pairs
    → list_any (is_own index_sid start end) pairs ≡ has_own notes index_sid start end
own_permuted notes index_sid start end pairs p =
    sym (list_any-IsPermutation (is_own index_sid start end) (map own_pair (segments_of notes)) pairs p)
    ∙ any_own index_sid start end (segments_of notes)

pub pair_total : IsTotalOrder pair_cmp
pair_total = then_total (on_total (λ (t : ℕ × ℕ). t.0) nat_cmp_total) (on_total (λ (t : ℕ × ℕ). t.1) nat_cmp_total)

abbrev pub pair_side : ℕ × ℕ → ℕ × ℕ → ℕ
pair_side wanted x = side_by pair_cmp (λ (p : ℕ × ℕ). p) wanted x

-- Not below by the first, nor by the second where the first are one.
not_below : (a b c d : ℕ) → (nat_lt a c || ((a == c) && nat_lt b d)) ≡ false → (c ≤ a) × (a ≡ c → d ≤ b)
not_below a b c d e = (
  elim (cases_lt a c) [ inl l ↦ absurd (let t = lt-ltb a c l in cc (t, e)) | inr m ↦ m ],
  λ s. elim (cases_lt b d) [
    | inl l ↦ absurd (
        let t = lt-ltb b d l in
        let q = eq-eqb a c s in
        let n = not_less a c (omega (arith, s)) in
        cc (t, q, n, e))
    | inr m ↦ m
  ],
)

from_side : (wanted x : ℕ × ℕ) → nat_lt (pair_side wanted x) 1 ≡ false → (wanted.0 ≤ x.0) × (x.0 ≡ wanted.0 → wanted.1 ≤ x.1)
from_side wanted x e = not_below x.0 x.1 wanted.0 wanted.1 (sym (side_pair x.0 x.1 wanted.0 wanted.1) ∙ e)

below_side : (wanted x : ℕ × ℕ) → nat_lt (pair_side wanted x) 1 ≡ true → (end : ℕ) → is_own wanted.0 wanted.1 end x ≡ false
below_side wanted x e end = false_from_ne_true (is_own wanted.0 wanted.1 end x) (λ t.
    let p = and_parts (x.0 == wanted.0) (nat_le wanted.1 x.1 && nat_lt x.1 end) t in
    let q = and_parts (nat_le wanted.1 x.1) (nat_lt x.1 end) p.1 in
    let same = eqb-true x.0 wanted.0 p.0 in
    let from = leb-true wanted.1 x.1 q.0 in
    let g = sym (side_pair x.0 x.1 wanted.0 wanted.1) ∙ e in
    elim (or_cases (nat_lt x.0 wanted.0) ((x.0 == wanted.0) && nat_lt x.1 wanted.1) g) [
      | inl l ↦ (let u = ltb-true x.0 wanted.0 l in omega (arith, u, same))
      | inr r ↦ (
          let u = ltb-true x.1 wanted.1 (and_parts (x.0 == wanted.0) (nat_lt x.1 wanted.1) r).1 in omega (arith, u, from))
    ])

module _ (index_sid start end : ℕ) (xs : List (ℕ × ℕ)) (k : ℕ) (sorted : IsSorted pair_cmp xs)
    (below : AllWithin (λ x. nat_lt (pair_side (index_sid, start) x) 1 ≡ true) xs 0 k)
    (above : AllWithin (λ x. nat_lt (pair_side (index_sid, start) x) 1 ≡ false) xs k (length xs)) where
  none_before : AllWithin (λ x. is_own index_sid start end x ≡ false) xs 0 k
  none_before i d a h = below_side (index_sid, start) (get_or xs i d) (below i d a h) end

  pub no_own_hit : length xs ≤ k → false ≡ list_any (is_own index_sid start end) xs
  no_own_hit l = none_hit (is_own index_sid start end) xs k none_before l

  pub own_hit : (s : ℕ × ℕ) → k < length xs → ((d : ℕ × ℕ) → s ≡ get_or xs k d)
      → ((s.0 == index_sid) && nat_lt s.1 end) ≡ list_any (is_own index_sid start end) xs
  own_hit s l same =
      let g = from_side (index_sid, start) s
      (ap (λ x. nat_lt (pair_side (index_sid, start) x) 1) (same s) ∙ above k s (omega arith) l) in
      same_bool ((s.0 == index_sid) && nat_lt s.1 end) (is_own index_sid start end s) (λ t.
      let p = and_parts (s.0 == index_sid) (nat_lt s.1 end) t in
      and_from _ _ p.0 (and_from _ _ (le-leb start s.1 (g.1 (eqb-true s.0 index_sid p.0))) p.1)) (λ t.
      let p = and_parts (s.0 == index_sid) (nat_le start s.1 && nat_lt s.1 end) t in
      and_from _ _ p.0 (and_parts (nat_le start s.1) (nat_lt s.1 end) p.1).1)
      ∙ first_hit (is_own index_sid start end) xs k none_before s l same (λ j a h t.
      let y = get_or xs j s in
      let p = and_parts (y.0 == index_sid) (nat_le start y.1 && nat_lt y.1 end) t in
      let q = and_parts (nat_le start y.1) (nat_lt y.1 end) p.1 in
      let own = eqb-true y.0 index_sid p.0 in
      let before = ltb-true y.1 end q.1 in
      let up = sides_rise pair_total (λ (z : ℕ × ℕ). z) s xs sorted k j s a h in
      let tied : pair_side s (get_or xs k s) ≡ 1 = ap (pair_side s) (sym (same s)) ∙ ap ordering_index (tied_itself pair_total s) in
      let higher = from_side s y (false_from_ne_true (nat_lt (pair_side s y) 1) (λ u.
      let v = ltb-true (pair_side s y) 1 u in omega (arith, up, tied, v))) in
      let one : s.0 ≡ index_sid = omega (arith, g.0, higher.0, own) in
      let from = g.1 one in
      let to = higher.1 (own ∙ sym one) in
      and_from _ _ (eq-eqb s.0 index_sid one)
      (and_from _ _ (le-leb start s.1 from) (lt-ltb s.1 end (omega (arith, to, before)))))
