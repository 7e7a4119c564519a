-- Heads in a list that is searched.
use Rattle.mxf_klv.proofs.Common.{◌≡◌, ◌↔◌, ℕ, zero, suc, ◌<◌, ◌≤◌, List, [], ◌∷◌, ◌++◌, length, take, drop, get_or}
use Rattle.mxf_klv.proofs.Common.{refl, sym, ap, subst, ◌∙◌, arith, inl, inr, slice_set, get_or-drop, NoteParts}
use Rattle.mxf_klv.proofs.Common.{head_note, In}
use Rattle.std.proofs.Common.{take-append-drop, length-drop}
use Rattle.mxf_catalogue.specs.Content.{AreReduced, IsContent, IsPlace, has_note, reduced_with}
use Rattle.mxf_catalogue.proofs.ContentLaws.{IsContent-with_note}
use Rattle.mxf_catalogue.proofs.HeadLaws.{next_replaces, swapped}
use Rattle.mxf_klv.proofs.Lists.{In-at}

-- what has a note that isn't there stands at its place
replaces_at : (xs : List NoteParts) (at : ℕ) (n : NoteParts) → IsContent xs → IsPlace n xs at → has_note xs n
    → (z : NoteParts) × (more : List NoteParts) × (drop at xs ≡ z ∷ more) × (head_note z ≡ n)
replaces_at xs at n r p (inl i) = absurd (p.absent i)
replaces_at xs at n r p (inr s) =
    grind (arith, IsContent-with_note n xs r, next_replaces (take at xs) (drop at xs) n s.0, take-append-drop at xs)

pub tells_at : (xs : List NoteParts) (at : ℕ) (n next : NoteParts) → IsContent xs → IsPlace n xs at → at < length xs
    → next ≡ get_or xs at next → (head_note next ≡ n) ↔ has_note xs n
tells_at xs at n next r p l is = grind (arith, In-at xs at next, replaces_at xs at n r p, get_or-drop at xs 0 next)

pub none_tells : (xs : List NoteParts) (at : ℕ) (n : NoteParts) → IsContent xs → IsPlace n xs at → length xs ≤ at
    → has_note xs n → ⊥
none_tells xs at n r p l h = grind (arith, replaces_at xs at n r p h, length-drop at xs)

-- a list around a place
around : (xs : List NoteParts) (i : ℕ) (d w : NoteParts) → i < length xs
    → (front : List NoteParts) × (back : List NoteParts) × (xs ≡ front ++ get_or xs i d ∷ back)
    × (slice_set xs i w ≡ front ++ w ∷ back)
around [] i d w l = absurd (omega arith)
around (x ∷ xs) zero d w l = ([], xs, refl, refl)
around (x ∷ xs) (suc i) d w l =
    let s = around xs i d w (omega arith) in
    (x ∷ s.0, s.1, ap (λ l. x ∷ l) s.2, ap (λ l. x ∷ l) s.3)

pub set_over_head : (xs : List NoteParts) (i : ℕ) (n : NoteParts) → IsContent xs → AreReduced xs → (In n xs → ⊥)
    → i < length xs → get_or xs i n ≡ head_note n → slice_set xs i n ≡ reduced_with n xs
set_over_head xs i n r p new l e =
    let s = around xs i n n l in
    let whole : xs ≡ s.0 ++ head_note n ∷ s.1 = s.2 ∙ ap (λ h. s.0 ++ h ∷ s.1) e in
    let there : In (head_note n) xs = subst (λ h. In h xs) e (In-at xs i n l) in
    s.3 ∙ swapped s.0 s.1 n (subst IsContent whole r) (subst AreReduced whole p)
    (λ q. new (subst (λ h. In h xs) (sym q) there)) ∙ ap (reduced_with n) (sym whole)
