-- The number of references and the one at a place.
use Rattle.std.proofs.Common.{◌≡◌, ℕ, zero, suc, ◌*◌, ◌/◌, ◌%◌, ◌<◌, ◌≤◌, List, ◌∷◌, ◌++◌, Some, None, length, take}
use Rattle.std.proofs.Common.{drop, drop-drop, take-append-drop, length-take, length-drop, refl, ap, ◌∙◌, sym, arith}
use Rattle.std.specs.List.{AllByRecursion, flat_map, slice_get}
use Rattle.mxf_sets.specs.Reference.{references_of, sixteens}
use Rattle.std.proofs.lemmas.List.{nil_from_length}

pub length-sixteens : (n : ℕ) (bytes : List ℕ) → length (sixteens n bytes) ≡ n
length-sixteens zero bytes = refl
length-sixteens (suc n) bytes = omega (arith, length-sixteens n (drop 16 bytes))

pub sixteens-past : (n i : ℕ) (bytes : List ℕ) → n ≤ i → slice_get (sixteens n bytes) i ≡ None
sixteens-past zero i bytes h = refl
sixteens-past (suc n) zero bytes h = absurd (omega arith)
sixteens-past (suc n) (suc i) bytes h = sixteens-past n i (drop 16 bytes) (omega arith)

pub sixteens-at : (n i : ℕ) (bytes : List ℕ) → i < n
    → slice_get (sixteens n bytes) i ≡ Some (take 16 (drop (16 * i) bytes))
sixteens-at zero i bytes h = absurd (omega arith)
sixteens-at (suc n) zero bytes h = refl
sixteens-at (suc n) (suc i) bytes h =
    grind (arith, drop-drop (16 * i) 16 bytes, sixteens-at n i (drop 16 bytes) (omega arith))

-- ---- the first reference

pub first_reference : (bytes : List ℕ) → 16 ≤ length bytes
    → references_of bytes ≡ take 16 bytes ∷ references_of (drop 16 bytes)
first_reference bytes h = grind (arith, length-drop 16 bytes)

-- ---- the references are their bytes

sixteens_whole : (n : ℕ) (bytes : List ℕ) → length bytes ≡ 16 * n
    → flat_map (λ reference. reference) (sixteens n bytes) ≡ bytes
sixteens_whole zero bytes h = sym (nil_from_length bytes (omega arith))
sixteens_whole (suc n) bytes h =
    ap (λ (t : List ℕ). take 16 bytes ++ t) (sixteens_whole n (drop 16 bytes) (omega (arith, length-drop 16 bytes)))
    ∙ take-append-drop 16 bytes

pub references_whole : (bytes : List ℕ) → length bytes % 16 ≡ 0
    → flat_map (λ reference. reference) (references_of bytes) ≡ bytes
references_whole bytes h = sixteens_whole (length bytes / 16) bytes (omega arith)

sixteens_wide : (n : ℕ) (bytes : List ℕ) → n * 16 ≤ length bytes
    → AllByRecursion (λ reference. length reference ≡ 16) (sixteens n bytes)
sixteens_wide zero bytes h = tt
sixteens_wide (suc n) bytes h =
    (omega (arith, length-take 16 bytes), sixteens_wide n (drop 16 bytes) (omega (arith, length-drop 16 bytes)))

pub references_wide : (bytes : List ℕ) → AllByRecursion (λ reference. length reference ≡ 16) (references_of bytes)
references_wide bytes = sixteens_wide (length bytes / 16) bytes (omega arith)
