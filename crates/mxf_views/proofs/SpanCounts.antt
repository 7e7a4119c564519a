-- Of packets that share no byte, the bytes that they take are the offsets that lie in one of them.
use Rattle.mxf_views.proofs.Common.{◌≡◌, ℕ, ◌+◌, ◌-◌, ◌<◌, ◌≤◌, true, false, nat_le, nat_lt, List, [], ◌∷◌, count_by}
use Rattle.mxf_views.proofs.Common.{filter, refl, range_with_len, sym, ap, subst, arith, leb-true, le-leb, ltb-true}
use Rattle.mxf_views.proofs.Common.{lt-ltb, false_from_ne_true, and_parts, sum_by-cons, NoteParts, end_of, AreApart}
use Rattle.mxf_views.proofs.Common.{sizes, is_in_one, lies_in, AreApart-lower, is_in_span, range-all}
use Rattle.mxf_views.specs.Spans.{size_of, AllEndBy}
use Rattle.mxf_klv.proofs.Counts.{range-split, range-none, range-same}
use Rattle.mxf_catalogue.proofs.ApartNotes.{AreApart-zone}

-- ---- counting offsets of a range

-- ---- packets that share no byte

pub in_span : (o : ℕ) (n : NoteParts) → n.offset ≤ o → o < end_of n → is_in_span o n ≡ true
in_span o n l r = rw (le-leb n.offset o l) (lt-ltb o (end_of n) r)

pub in_span-says : (o : ℕ) (n : NoteParts) → is_in_span o n ≡ true → (n.offset ≤ o) × (o < end_of n)
in_span-says o n h = let p = and_parts (nat_le n.offset o) (nat_lt o (end_of n)) h in
    (leb-true n.offset o p.0, ltb-true o (end_of n) p.1)

pub in_none-below : (o low : ℕ) (notes : List NoteParts) → AreApart low notes → o < low → is_in_one notes o ≡ false
in_none-below o low [] a l = refl
in_none-below o low (n ∷ notes) a l = grind (arith, in_span-says, in_none-below o (end_of n) notes a.1 (omega arith))

-- The bytes that the packets take are the offsets of a range that lie in one of them, where they lie in the range.
pub sizes-count : (notes : List NoteParts) (low len : ℕ) → AreApart low notes → AllEndBy (low + len) notes
    → sizes notes ≡ count_by (is_in_one notes) (range_with_len low len)
sizes-count [] low len a e = sym (range-none (is_in_one []) low len (λ o l r. refl))
sizes-count (n ∷ notes) low len a e =
    let start : low ≤ n.offset = a.0 in
    let stop : end_of n ≤ low + len = e.0 in
    let inside : n.offset ≤ end_of n = omega arith in
    let before = n.offset - low in
    let size = size_of n in
    let after = low + len - end_of n in
    let p = is_in_one (n ∷ notes) in
    let e1 : len ≡ before + (size + after) = omega arith in
    let s1 = range-split p low before (size + after) in
    let at : low + before ≡ n.offset = omega arith in
    let s2 = range-split p n.offset size after in
    let at2 : n.offset + size ≡ end_of n = omega arith in
    let z1 : count_by p (range_with_len low before) ≡ 0 = range-none p low before
    (λ o l r. in_none-below o n.offset (n ∷ notes) (omega arith, a.1) (omega arith)) in
    let z2 : count_by p (range_with_len n.offset size) ≡ size = range-all p n.offset size
    (λ o l r. let t = in_span o n l (omega arith) in rw t refl) in
    let z3 : count_by p (range_with_len (end_of n) after) ≡ count_by (is_in_one notes)
    (range_with_len (end_of n) after) = range-same p (is_in_one notes) (end_of n) after
    (λ o l r. let f : is_in_span o n ≡ false = false_from_ne_true (is_in_span o n)
    (λ t. let s : o < end_of n = (in_span-says o n t).1 in absurd (omega arith)) in rw f refl) in
    let at3 : end_of n + after ≡ low + len = omega arith in
    let ih : sizes notes ≡ count_by (is_in_one notes) (range_with_len (end_of n) after) = sizes-count notes
    (end_of n) after a.1 (subst (λ (h : ℕ). AllEndBy h notes) (sym at3) e.1) in
    let c = sum_by-cons size_of n notes in
    let g1 : count_by p (range_with_len low len) ≡ count_by p (range_with_len low (before + (size + after))) = ap
    (λ (k : ℕ). count_by p (range_with_len low k)) e1 in
    let g2 : count_by p (range_with_len (low + before) (size + after)) ≡ count_by p
    (range_with_len n.offset (size + after)) = ap (λ (k : ℕ). count_by p (range_with_len k (size + after))) at in
    let g3 : count_by p (range_with_len (n.offset + size) after) ≡ count_by p (range_with_len (end_of n) after) = ap
    (λ (k : ℕ). count_by p (range_with_len k after)) at2 in
    omega (arith, c, ih, z1, z2, z3, s1, s2, g1, g2, g3)

-- the packets of a zone lie in it
AllEndBy-zone : (start len : ℕ) (notes : List NoteParts) → AllEndBy (start + len) (filter (lies_in start len) notes)
AllEndBy-zone start len [] = tt
AllEndBy-zone start len (n ∷ notes) = grind (arith, AllEndBy-zone start len notes)

-- What is covered of a zone is the number of its offsets that lie in one of the packets that lie wholly in it.
pub zone-count : (notes : List NoteParts) (low start len : ℕ) → AreApart low notes
    → sizes (filter (lies_in start len) notes) ≡ count_by (is_in_one (filter (lies_in start len) notes))
    (range_with_len start len)
zone-count notes low start len a = sizes-count (filter (lies_in start len) notes) start len
    (AreApart-zone start len low notes a) (AllEndBy-zone start len notes)

-- One more packet is counted.
pub sizes_more : (counted : ℕ) (n : NoteParts) (left rest : List NoteParts) → left ≡ n ∷ rest → AreApart counted left
    → (counted + size_of n + sizes rest ≡ counted + sizes left) × AreApart (counted + size_of n) rest
sizes_more counted n left rest e a =
    let b : AreApart counted (n ∷ rest) = subst (AreApart counted) e a in
    let l : counted ≤ n.offset = b.0 in
    let s : sizes left ≡ sizes (n ∷ rest) = ap sizes e in
    let c = sum_by-cons size_of n rest in
    (omega (arith, s, c), AreApart-lower (counted + size_of n) (end_of n) rest (omega arith) b.1)
