-- Fronts and rests of lists that were put behind one another, and agreement of bytes that come in parts.
use Rattle.std.proofs.Common.{◌≡◌, ◌-◌, ◌≤◌, ℕ, zero, suc, List, [], ◌∷◌, ◌++◌, length, take, drop, min, Bool, ◌↔◌}
use Rattle.std.proofs.Common.{true, false, ◌&&◌, eqb, eq-eqb, sym, ap, ◌∙◌, refl, arith}
use Rattle.std.proofs.lemmas.Bool.{and_from, and_parts, eqb-true}
use Rattle.std.specs.Cmp.Lexicographic.{pointwise}
use Rattle.std.proofs.Math.ListN.{length-drop}
use Rattle.mxf_verify.specs.Agreeing.{agrees}

pub take_of_append : {X : Type 0} (k : ℕ) (xs ys : List X) → take k (xs ++ ys) ≡ take k xs ++ take (k - length xs) ys
take_of_append zero [] ys = refl
take_of_append zero (x ∷ xs) ys = let z : 0 - suc (length xs) ≡ 0 = omega arith in rw z refl
take_of_append (suc k) [] ys = let z : suc k - 0 ≡ suc k = omega arith in rw z refl
take_of_append (suc k) (x ∷ xs) ys = grind (arith, length, take_of_append k xs ys)

pub drop_of_append : {X : Type 0} (k : ℕ) (xs ys : List X) → drop k (xs ++ ys) ≡ drop k xs ++ drop (k - length xs) ys
drop_of_append zero [] ys = refl
drop_of_append zero (x ∷ xs) ys = let z : 0 - suc (length xs) ≡ 0 = omega arith in rw z refl
drop_of_append (suc k) [] ys = let z : suc k - 0 ≡ suc k = omega arith in rw z refl
drop_of_append (suc k) (x ∷ xs) ys = grind (arith, length, drop_of_append k xs ys)

both_first : (a b c : Bool) → (a && (b && c)) ≡ ((a && b) && c)
both_first true b c = refl
both_first false b c = refl

pub agrees_none : (known : List ℕ) → agrees known [] ≡ true
agrees_none [] = refl
agrees_none (x ∷ known) = refl

-- bytes agree with a front and what follows it exactly where they agree with the front, and the rest with what follows
agrees_known : (front known bytes : List ℕ)
    → agrees (front ++ known) bytes ≡ (agrees front bytes && agrees known (drop (length front) bytes))
agrees_known [] known bytes = refl
agrees_known (x ∷ front) known [] = sym (agrees_none known)
agrees_known (x ∷ front) known (y ∷ bytes) =
    ap (λ b. eqb x y && b) (agrees_known front known bytes) ∙ both_first (eqb x y) _ _

-- the same of what is known from a position on
pub agrees_part : (front known : List ℕ) (at : ℕ) (bytes : List ℕ) → agrees (drop at (front ++ known)) bytes
    ≡ (agrees (drop at front) bytes && agrees (drop (at - length front) known) (drop (length front - at) bytes))
agrees_part front known at bytes = grind (arith, drop_of_append, agrees_known, length-drop)

-- known bytes agree with a front and what follows it exactly where they agree with the front, and the rest of them with
-- what follows
pub agrees_append : (known front more : List ℕ)
    → agrees known (front ++ more) ≡ (agrees known front && agrees (drop (length front) known) more)
agrees_append [] [] more = refl
agrees_append [] (x ∷ front) more = refl
agrees_append (y ∷ known) [] more = refl
agrees_append (y ∷ known) (x ∷ front) more =
    ap (λ b. eqb y x && b) (agrees_append known front more) ∙ both_first (eqb y x) _ _

-- bytes agree where as many of both are the same as there are of either
pub agrees_same : (known bytes : List ℕ) (count : ℕ) → count ≡ min (length known) (length bytes)
    → pointwise eqb (take count known) (take count bytes) ≡ agrees known bytes
agrees_same [] bytes count e = let z : count ≡ 0 = omega arith in rw z refl
agrees_same (x ∷ known) [] count e = let z : count ≡ 0 = omega arith in rw z refl
agrees_same (x ∷ known) (y ∷ bytes) count e =
    let z : count ≡ suc (min (length known) (length bytes)) = omega arith in
    rw z (ap (λ b. eqb x y && b) (agrees_same known bytes (min (length known) (length bytes)) refl))

-- as many bytes as are known, or more, begin with these where they agree
pub agrees_whole : (known bytes : List ℕ) → length known ≤ length bytes
    → (agrees known bytes ≡ true) ↔ (take (length known) bytes ≡ known)
agrees_whole [] bytes h = (λ a. refl, λ e. refl)
agrees_whole (x ∷ known) [] h = absurd (omega arith)
agrees_whole (x ∷ known) (y ∷ bytes) h =
    grind (arith, and_parts, eqb, eqb-true, and_from, eq-eqb, agrees_whole known bytes (omega arith))
