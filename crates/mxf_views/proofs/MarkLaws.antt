-- Marks among notes, and what lies in a range by two of them.
use Rattle.mxf_views.proofs.Common.{◌≡◌, ◌∙◌, ℕ, ◌+◌, ◌-◌, ◌≤◌, ◌⊎◌, false, cond, List, [], ◌∷◌, ◌++◌, refl, ap}
use Rattle.mxf_views.proofs.Common.{append_assoc, arith, get_or, inl, inr, length, subst, sym, count_by}
use Rattle.mxf_views.proofs.Common.{IsNonDecreasingBy, false_from_ne_true, sum_by-append, sum_by-cons, NoteParts}
use Rattle.mxf_views.proofs.Common.{end_of, In, IsCatalogue, AreApart, clear_notes, lies_in, covered_of}
use Rattle.mxf_views.proofs.Common.{is_preface_note, prefaces_of, zone_of, clear_from, is_in_one, sizes, AreInRange}
use Rattle.mxf_views.proofs.Common.{count_by-cons, tally, length-filter_le, In-at, In-append, same_bool}
use Rattle.mxf_views.proofs.Common.{count_by-le-length, range-le}
use Rattle.mxf_views.specs.declared.kept.sums.Mark.{Mark}
use Rattle.mxf_views.specs.Sums.{AreMarks, IsCut, IsMark}
use Rattle.std.specs.Prelude.{sum_by}
use Rattle.mxf_views.specs.Spans.{size_of}
use Rattle.mxf_views.proofs.SpanCounts.{zone-count}
use Rattle.mxf_views.proofs.SumLaws.{zone_above}
use Rattle.mxf_catalogue.proofs.ApartNotes.{above_first, cut_there, lies_if, lies_says, rest_above}
use Rattle.mxf_klv.proofs.NoteFilters.{kept_first, left_first, weighed}
use Rattle.std.proofs.lemmas.List.Sorted.{IsNonDecreasingBy-push}

-- ---- a range, cut in two

-- What lies in a range is what lies in its and_parts below and above an offset that no note lies across.
cut_sum : (f : NoteParts → ℕ) (start cut bytes low high : ℕ) (ns : List NoteParts) → cut ≡ start + low
    → bytes ≡ low + high → IsCut cut ns
    → sum_by f (zone_of start bytes ns) ≡ sum_by f (zone_of start low ns) + sum_by f (zone_of cut high ns)
cut_sum f start cut bytes low high [] at all c = refl
cut_sum f start cut bytes low high (n ∷ ns) at all c =
    let ih = cut_sum f start cut bytes low high ns at all (λ m h. c m (inr h)) in
    let whole = weighed f (lies_in start bytes) n ns in
    let below = weighed f (lies_in start low) n ns in
    let above = weighed f (lies_in cut high) n ns in
    elim (c n (inl refl)) [
      | inl l ↦ (
          let same : lies_in start bytes n ≡ lies_in start low n =
          same_bool (lies_in start bytes n) (lies_in start low n)
          (λ t. lies_if start low n (lies_says start bytes n t).0 (omega (arith, at, l))) (λ t.
          let h : end_of n ≤ start + low = (lies_says start low n t).1 in
          lies_if start bytes n (lies_says start low n t).0 (omega (arith, h, all))) in
          let none : lies_in cut high n ≡ false = false_from_ne_true (lies_in cut high n) (λ t.
          let h : cut ≤ n.offset = (lies_says cut high n t).0 in omega (arith, h, l)) in
          let a = ap (λ b. cond b (f n) 0) same in
          let z : cond (lies_in cut high n) (f n) 0 ≡ 0 = ap (λ b. cond b (f n) 0) none in
          omega (arith, ih, whole, below, above, a, z))
      | inr l ↦ (
          let same : lies_in start bytes n ≡ lies_in cut high n =
          same_bool (lies_in start bytes n) (lies_in cut high n) (λ t.
          let h : end_of n ≤ start + bytes = (lies_says start bytes n t).1 in
          lies_if cut high n l (omega (arith, h, at, all))) (λ t.
          let h : end_of n ≤ cut + high = (lies_says cut high n t).1 in
          lies_if start bytes n (omega (arith, l, at)) (omega (arith, h, at, all))) in
          let none : lies_in start low n ≡ false = false_from_ne_true (lies_in start low n) (λ t.
          let h : end_of n ≤ start + low = (lies_says start low n t).1 in omega (arith, h, l, at)) in
          let a = ap (λ b. cond b (f n) 0) same in
          let z : cond (lies_in start low n) (f n) 0 ≡ 0 = ap (λ b. cond b (f n) 0) none in
          omega (arith, ih, whole, below, above, a, z))
    ]

-- So it is what lies below one cut in it and above another, and what lies below the other and not below the one.
pub by_cuts : (f : NoteParts → ℕ) (start bytes first last : ℕ) (ns : List NoteParts) → IsCut first ns → IsCut last ns
    → start ≤ first → first ≤ last → last ≤ start + bytes → (sum_by f (zone_of start bytes ns)
    ≡ sum_by f (zone_of start (first - start) ns)
    + (sum_by f (zone_of 0 last ns) - sum_by f (zone_of 0 first ns))
    + sum_by f (zone_of last (bytes - (last - start)) ns))
    × (sum_by f (zone_of 0 first ns) ≤ sum_by f (zone_of 0 last ns))
by_cuts f start bytes first last ns c d from order to =
    let above = bytes - (last - start) in
    let between = last - first in
    let a = cut_sum f start first bytes (first - start) (between + above) ns (omega arith) (omega arith) c in
    let b = cut_sum f first last (between + above) between above ns (omega arith) refl d in
    let z = cut_sum f 0 first last first between ns (omega arith) (omega arith) c in
    (omega (arith, a, b, z), omega (arith, z))

-- ---- there is no more in a range than there can be

pub covered_fits : (start bytes : ℕ) (ns : List NoteParts) → AreApart 0 ns → sizes (zone_of start bytes ns) ≤ bytes
covered_fits start bytes ns a =
    let counted = zone-count ns 0 start bytes a in
    let most = range-le (is_in_one (zone_of start bytes ns)) start bytes in omega (arith, counted, most)

pub prefaces_fit : (start bytes : ℕ) (ns : List NoteParts)
    → count_by is_preface_note (zone_of start bytes ns) ≤ length ns
prefaces_fit start bytes ns =
    let some = count_by-le-length is_preface_note (zone_of start bytes ns) in
    let part = length-filter_le (lies_in start bytes) ns in omega (arith, some, part)

-- ---- no note lies across the offset of another

none_below : (offset : ℕ) (ns : List NoteParts) → ((m : NoteParts) → In m ns → offset ≤ m.offset)
    → zone_of 0 offset ns ≡ []
none_below offset [] f = refl
none_below offset (m ∷ ns) f = left_first (lies_in 0 offset) m ns [] (false_from_ne_true (lies_in 0 offset m) (λ t.
    let h : end_of m ≤ 0 + offset = (lies_says 0 offset m t).1 in
    let l : offset ≤ m.offset = f m (inl refl) in omega (arith, h, l))) (none_below offset ns (λ x h. f x (inr h)))

zone_before : (low : ℕ) (before rest : List NoteParts) (n : NoteParts) → AreApart low (before ++ n ∷ rest)
    → zone_of 0 n.offset (before ++ n ∷ rest) ≡ before
zone_before low [] rest n a =
    none_below n.offset (n ∷ rest) (λ x h. elim h [
      | inl e ↦ (let s : x.offset ≡ n.offset = ap (λ (y : NoteParts). y.offset) e in omega (arith, s))
      | inr k ↦ rest_above low [] rest n x a k
    ])
zone_before low (y ∷ ys) rest n a =
    let l : end_of y ≤ n.offset = above_first low y n ys rest a in
    kept_first (lies_in 0 n.offset) y (ys ++ n ∷ rest) ys (lies_if 0 n.offset y (omega arith) (omega (arith, l)))
    (zone_before (end_of y) ys rest n a.1)

-- ---- marks, one after another

rise_push : (xs : List Mark) (x : Mark) → IsNonDecreasingBy (λ (m : Mark). m.offset) xs
    → ((m : Mark) → In m xs → m.offset ≤ x.offset) → IsNonDecreasingBy (λ (m : Mark). m.offset) (xs ++ x ∷ [])
rise_push xs x r f = IsNonDecreasingBy-push (λ (m : Mark). m.offset) xs x r (λ d l.
    f (get_or xs (length xs - 1) d) (In-at xs (length xs - 1) d (omega (arith, l))))

-- The marks so far are marks among all notes and none is above those left, and the notes passed so far are counted.
pub record AreCounted (all : List NoteParts) (marks : List Mark) (covered prefaces : ℕ)
    (left : List NoteParts) : Type 0 where
  pub marks_are : AreMarks all marks
  pub low : (m : Mark) → In m marks → (n : NoteParts) → In n left → m.offset ≤ n.offset
  pub before : List NoteParts
  pub split : all ≡ before ++ left
  pub covered_is : covered ≡ sizes before
  pub prefaces_is : prefaces ≡ count_by is_preface_note before

module _ (all : List NoteParts) (marks : List Mark) (covered prefaces : ℕ) (n : NoteParts) (left rest : List NoteParts)
    (a : AreApart 0 all) (k : AreCounted all marks covered prefaces left) (e : left ≡ n ∷ rest) where
  here : all ≡ k.before ++ n ∷ rest
  here = k.split ∙ ap (λ l. k.before ++ l) e

  apart : AreApart 0 (k.before ++ n ∷ rest)
  apart = subst (AreApart 0) here a

  abbrev mark : Mark
  mark = record { offset = n.offset; covered = covered; prefaces = prefaces }

  below : zone_of 0 n.offset all ≡ k.before
  below = ap (zone_of 0 n.offset) here ∙ zone_before 0 k.before rest n apart

  is_mark : IsMark all mark
  is_mark = record {
    cut = λ x h. cut_there 0 k.before rest n x apart (subst (λ (l : List NoteParts). In x l) here h);
    covered = k.covered_is ∙ ap sizes (sym below);
    prefaces = k.prefaces_is ∙ ap (count_by is_preface_note) (sym below);
  }

  counted_with : (next : List Mark) → AreMarks all next
      → ((m : Mark) → In m next → (x : NoteParts) → In x rest → m.offset ≤ x.offset)
      → AreCounted all next (covered + size_of n) (prefaces + tally (is_preface_note n)) rest
  counted_with next are low = record {
    marks_are = are;
    low = low;
    before = k.before ++ n ∷ [];
    split = here ∙ sym (append_assoc k.before (n ∷ []) rest);
    covered_is = (let more = sum_by-append size_of k.before (n ∷ []) in
        let one = sum_by-cons size_of n [] in omega (arith, k.covered_is, more, one));
    prefaces_is = (let more = sum_by-append (λ m. cond (is_preface_note m) 1 0) k.before (n ∷ []) in
        let one = count_by-cons is_preface_note n [] in omega (arith, k.prefaces_is, more, one));
  }

  low_before : (m : Mark) → In m marks → (x : NoteParts) → In x rest → m.offset ≤ x.offset
  low_before m h x i = k.low m h x (subst (λ (l : List NoteParts). In x l) (sym e) (inr i))

  pub counted_next : (next : List Mark) → (next ≡ marks) ⊎ (next ≡ marks ++ mark ∷ [])
      → AreCounted all next (covered + size_of n) (prefaces + tally (is_preface_note n)) rest
  counted_next next (inl same) = counted_with next (subst (AreMarks all) (sym same) k.marks_are)
      (λ m h. low_before m (subst (λ (l : List Mark). In m l) same h))
  counted_next next (inr more) =
      let held = λ (m : Mark). In-append m marks (mark ∷ []) in
      counted_with next
      (subst (AreMarks all) (sym more) (record {
        each = λ m h. elim ((held m).0 h) [
          | inl i ↦ k.marks_are.each m i
          | inr i ↦ elim i [ inl q ↦ subst (IsMark all) (sym q) is_mark | inr z ↦ absurd z ]
        ];
        rise = rise_push marks mark k.marks_are.rise
            (λ m h. k.low m h n (subst (λ (l : List NoteParts). In n l) (sym e) (inl refl)));
      }))
      (λ m h x i. elim ((held m).0 (subst (λ (l : List Mark). In m l) more h)) [
        | inl j ↦ low_before m j x i
        | inr j ↦ elim j [
          | inl q ↦ (
              let s : m.offset ≡ n.offset = ap (λ (o : Mark). o.offset) q in
              let l = rest_above 0 k.before rest n x apart i in omega (arith, s, l))
          | inr z ↦ absurd z
        ]
      ])

-- What a range of clear notes has, by two marks in it.
module _ (b start bytes : ℕ) (notes : List NoteParts) (first last : Mark) (catalogue : IsCatalogue notes)
    (low : b ≤ start)
    (r : AreInRange (clear_from b notes) start bytes first last) where
  in_range : (f : NoteParts → ℕ) → sum_by f (zone_of start bytes (clear_notes notes))
      ≡ sum_by f (zone_of start (first.offset - start) (clear_notes notes))
      + (sum_by f (zone_of 0 last.offset (clear_from b notes)) - sum_by f (zone_of 0 first.offset (clear_from b notes)))
      + sum_by f (zone_of last.offset (bytes - (last.offset - start)) (clear_notes notes))
  in_range f =
      let q = by_cuts f start bytes first.offset last.offset (clear_from b notes) r.first_is.cut r.last_is.cut r.from
      r.order r.to in
      let whole = zone_above b start bytes notes catalogue low in
      let below = zone_above b start (first.offset - start) notes catalogue low in
      let above = zone_above b last.offset (bytes - (last.offset - start)) notes catalogue
      (omega (arith, low, r.from, r.order)) in
      let w = ap (sum_by f) whole in
      let l = ap (sum_by f) below in
      let h = ap (sum_by f) above in omega (arith, q.0, w, l, h)

  in_order : (f : NoteParts → ℕ) → sum_by f (zone_of 0 first.offset (clear_from b notes))
      ≤ sum_by f (zone_of 0 last.offset (clear_from b notes))
  in_order f =
      let q = by_cuts f start bytes first.offset last.offset (clear_from b notes) r.first_is.cut r.last_is.cut r.from
      r.order r.to in
      q.1

  pub covered_order : first.covered ≤ last.covered
  covered_order = omega (arith, in_order size_of, r.first_is.covered, r.last_is.covered)

  pub covered_by : covered_of start (first.offset - start) (clear_notes notes) + (last.covered - first.covered)
      + covered_of last.offset (bytes - (last.offset - start)) (clear_notes notes)
      ≡ covered_of start bytes (clear_notes notes)
  covered_by = omega (arith, in_range size_of, r.first_is.covered, r.last_is.covered)

  pub prefaces_order : first.prefaces ≤ last.prefaces
  prefaces_order = omega (arith, in_order (λ n. cond (is_preface_note n) 1 0), r.first_is.prefaces, r.last_is.prefaces)

  pub prefaces_by : prefaces_of start (first.offset - start) (clear_notes notes) + (last.prefaces - first.prefaces)
      + prefaces_of last.offset (bytes - (last.offset - start)) (clear_notes notes)
      ≡ prefaces_of start bytes (clear_notes notes)
  prefaces_by = omega (arith, in_range (λ n. cond (is_preface_note n) 1 0), r.first_is.prefaces, r.last_is.prefaces)
