-- Notes that stand apart: the first of them, those that lie in a range, and those behind one.
use Rattle.mxf_klv.proofs.Common.{List, [], ap, arith, filter, inl, inr, length, nat_le, refl, subst, suc, sym, true, ℕ}
use Rattle.mxf_klv.proofs.Common.{◌++◌, ◌+◌, ◌↔◌, ◌∷◌, ◌≡◌, ◌≤◌, ◌⊎◌, and_from, and_parts, end_of, NoteParts, In}
use Rattle.std.proofs.Common.{le-leb, leb-true}
use Rattle.mxf_catalogue.proofs.ApartLaws.{begins_above}
use Rattle.mxf_catalogue.proofs.SpanLaws.{AreApart-filter}
use Rattle.mxf_catalogue.specs.Disputes.{AreApart, lies_in}
use Rattle.mxf_klv.proofs.Lists.{In-append}
use Rattle.mxf_klv.proofs.NoteFilters.{behind}

pub lies_says : (start bytes : ℕ) (n : NoteParts) → lies_in start bytes n ≡ true
    → (start ≤ n.offset) × (end_of n ≤ start + bytes)
lies_says start bytes n t =
    let p = and_parts (nat_le start n.offset) (nat_le (end_of n) (start + bytes)) t in
    (leb-true start n.offset p.0, leb-true (end_of n) (start + bytes) p.1)

pub lies_if : (start bytes : ℕ) (n : NoteParts) → start ≤ n.offset → end_of n ≤ start + bytes
    → lies_in start bytes n ≡ true
lies_if start bytes n l h =
    and_from (nat_le start n.offset) (nat_le (end_of n) (start + bytes)) (le-leb start n.offset l)
    (le-leb (end_of n) (start + bytes) h)

pub above_first : (low : ℕ) (y n : NoteParts) (ys rest : List NoteParts) → AreApart low (y ∷ (ys ++ n ∷ rest))
    → end_of y ≤ n.offset
above_first low y n ys rest a =
    begins_above (end_of y) (ys ++ n ∷ rest) n a.1 ((In-append n ys (n ∷ rest)).1 (inr (inl refl)))

pub rest_above : (low : ℕ) (before rest : List NoteParts) (n x : NoteParts) → AreApart low (before ++ n ∷ rest)
    → In x rest → n.offset ≤ x.offset
rest_above low [] rest n x a h =
    let g : end_of n ≤ x.offset = begins_above (end_of n) rest x a.1 h in omega (arith, g)
rest_above low (y ∷ ys) rest n x a h = rest_above (end_of y) ys rest n x a.1 h

pub cut_there : (low : ℕ) (before rest : List NoteParts) (n x : NoteParts) → AreApart low (before ++ n ∷ rest)
    → In x (before ++ n ∷ rest) → (end_of x ≤ n.offset) ⊎ (n.offset ≤ x.offset)
cut_there low [] rest n x a (inl e) = inr (let s : x.offset ≡ n.offset = ap (λ (y : NoteParts). y.offset) e in
    omega (arith, s))
cut_there low [] rest n x a (inr h) = inr (rest_above low [] rest n x a h)
cut_there low (y ∷ ys) rest n x a (inl e) =
    inl (subst (λ (z : NoteParts). end_of z ≤ n.offset) (sym e) (above_first low y n ys rest a))
cut_there low (y ∷ ys) rest n x a (inr h) = cut_there (end_of y) ys rest n x a.1 h

-- Of notes apart only the first stands where the fills end.
pub first_there : (reached : ℕ) (n m : NoteParts) (left : List NoteParts) → AreApart reached (n ∷ left)
    → In m (n ∷ left) → m.offset ≡ reached → m ≡ n
first_there reached n m left a (inl e) q = e
first_there reached n m left a (inr h) q =
    let l : reached ≤ n.offset = a.0 in
    let k : end_of n ≤ m.offset = above (end_of n) left m a.1 h in absurd (omega arith)
  where
    above : (low : ℕ) (notes : List NoteParts) (m : NoteParts) → AreApart low notes → In m notes → low ≤ m.offset
    above low (x ∷ xs) m a (inl e) =
        let l : low ≤ x.offset = a.0 in
        let q : m.offset ≡ x.offset = ap (λ (y : NoteParts). y.offset) e in omega arith
    above low (x ∷ xs) m a (inr h) =
        let l : low ≤ x.offset = a.0 in
        let k : end_of x ≤ m.offset = above (end_of x) xs m a.1 h in omega arith
    above low [] m a h = absurd h

pub raised : (low high : ℕ) (notes : List NoteParts) → AreApart low notes
    → ((n : NoteParts) → In n notes → high ≤ n.offset) → AreApart high notes
raised low high [] a f = tt
raised low high (n ∷ ns) a f = (f n (inl refl), a.1)

-- the firsts of two lists apart with the same members are one
pub same_first : (low : ℕ) (x y : NoteParts) (xs ys : List NoteParts) → AreApart low (x ∷ xs) → AreApart low (y ∷ ys)
    → In x (y ∷ ys) → In y (x ∷ xs) → x ≡ y
same_first low x y xs ys a b (inl e) k = e
same_first low x y xs ys a b (inr h) (inl e) = sym e
same_first low x y xs ys a b (inr h) (inr k) =
    let m : end_of y ≤ x.offset = begins_above (end_of y) ys x b.1 h in
    let n : end_of x ≤ y.offset = begins_above (end_of x) xs y a.1 k in
    absurd (omega arith)

-- the rest of a list apart lacks its first
pub first_once : (low : ℕ) (x : NoteParts) (ns : List NoteParts) → AreApart low (x ∷ ns) → In x ns → ⊥
first_once low x ns a h =
    let k : end_of x ≤ x.offset = begins_above (end_of x) ns x a.1 h in
    omega arith

-- lists apart with the same members are one
pub apart_same : (low : ℕ) (xs ys : List NoteParts) → AreApart low xs → AreApart low ys
    → ((n : NoteParts) → In n xs ↔ In n ys) → length xs ≡ length ys
apart_same low [] [] a b m = refl
apart_same low [] (y ∷ ys) a b m = absurd ((m y).1 (inl refl))
apart_same low (x ∷ xs) [] a b m = absurd ((m x).0 (inl refl))
apart_same low (x ∷ xs) (y ∷ ys) a b m =
    let e = same_first low x y xs ys a b ((m x).0 (inl refl)) ((m y).1 (inl refl)) in
    let c : AreApart low (x ∷ ys) = subst (λ (z : NoteParts). AreApart low (z ∷ ys)) (sym e) b in
    let k = λ (n : NoteParts). subst (λ (z : NoteParts). In n (x ∷ xs) ↔ In n (z ∷ ys)) (sym e) (m n) in
    let once = λ (zs : List NoteParts) (z : AreApart low (x ∷ zs)) (n : NoteParts) (h : In n zs) (q : n ≡ x).
    first_once low x zs z (subst (λ (w : NoteParts). In w zs) q h) in
    let rest = apart_same (end_of x) xs ys a.1 c.1 (λ n. (
      behind x n xs ys (once xs a n) (k n).0,
      behind x n ys xs (once ys c n) (k n).1,
    )) in
    ap (λ (l : ℕ). suc l) rest

pub AreApart-zone : (start len low : ℕ) (notes : List NoteParts) → AreApart low notes
    → AreApart start (filter (lies_in start len) notes)
AreApart-zone start len low [] a = tt
AreApart-zone start len low (n ∷ notes) a =
    grind (arith, AreApart-filter, and_parts, leb-true, AreApart-zone start len (end_of n) notes a.1)
