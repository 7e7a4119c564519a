-- Parts of a value that are written one after another.
use Rattle.mxf_klv.proofs.Common.{◌≡◌, ℕ, ◌+◌, ◌≤◌, ◌<◌, List, ◌∷◌, ◌++◌, suc, get_or, Result, arith, length, take}
use Rattle.mxf_klv.proofs.Common.{drop, sym, ap, ◌∙◌, subst, append_assoc, length-append, flat_map-append, Appends}
use Rattle.mxf_klv.proofs.Common.{Appends-trans, WritesPart, StopsIn, counted, take-append-le, take-append-add}
use Rattle.mxf_klv.specs.declared.writing.WriteFault.{WriteFault}
use Rattle.std.proofs.Common.{drop-cons, take-append-drop}
use Rattle.std.specs.Prelude.{Option, flat_map}

counted_again : (a b c m : ℕ) → m ≡ counted (a + b) → counted (m + c) ≡ counted (a + (b + c))
counted_again a b c m e = omega arith

take_past : (xs ys : List ℕ) (n : ℕ) → xs ++ take n ys ≡ take (length xs + n) (xs ++ ys)
take_past xs ys n = sym (take-append-add xs ys n)

-- the first part was written, and the second is what is told of
pub WritesPart-after : {X : Type 0} (a b c : Option (List ℕ)) (before mid after : ℕ) (r : Result X WriteFault)
    (xs ys : List ℕ) → Appends a b xs
    → mid ≡ counted (before + length xs) → WritesPart b c mid after r ys → WritesPart a c before after r (xs ++ ys)
WritesPart-after a b c before mid after r xs ys h k e = grind (arith, Appends-trans, length-append, take_past)

-- a fault in a part is a fault of the whole
pub StopsIn-part : (a b c : Option (List ℕ)) (before mid : ℕ) (e : WriteFault) (done part rest : List ℕ)
    → Appends a b done → mid ≡ counted (before + length done)
    → StopsIn b c mid e part → StopsIn a c before e ((done ++ part) ++ rest)
StopsIn-part a b c before mid e done part rest p m q =
    let n = q.0 in
    let front = length-append done part in
    let short : length done + n ≤ length (done ++ part) = omega (arith, q.1) in
    let whole = length-append (done ++ part) rest in
    let bytes = sym (take-append-le (length done + n) (done ++ part) rest short ∙ take-append-add done part n) in (
      length done + n,
      omega (arith, q.1),
      q.2 ∙ counted_again before (length done) n mid m,
      subst (Appends a c) bytes (Appends-trans a b c done (take n part) p q.3),
    )

pub flat_map-at : {X A : Type 0} (f : X → List A) (xs : List X) (i : ℕ) (d : X) → i < length xs
    → (flat_map f (take i xs) ++ f (get_or xs i d)) ++ flat_map f (drop (suc i) xs) ≡ flat_map f xs
flat_map-at f xs i d h = append_assoc (flat_map f (take i xs)) (f (get_or xs i d)) (flat_map f (drop (suc i) xs)) ∙ sym
    (flat_map-append f (take i xs) (get_or xs i d ∷ drop (suc i) xs)) ∙ ap (flat_map f)
    (ap (λ l. take i xs ++ l) (sym (drop-cons xs i d h)) ∙ take-append-drop i xs)

-- the same where the parts are joined the other way
pub StopsIn-middle : (a b c : Option (List ℕ)) (before mid : ℕ) (e : WriteFault) (done part rest : List ℕ)
    → Appends a b done → mid ≡ counted (before + length done)
    → StopsIn b c mid e part → StopsIn a c before e (done ++ (part ++ rest))
StopsIn-middle a b c before mid e done part rest p m q = subst (StopsIn a c before e) (append_assoc done part rest)
    (StopsIn-part a b c before mid e done part rest p m q)
