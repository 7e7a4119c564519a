-- Keys gathered, sorted and counted.
use Rattle.mxf_klv.proofs.Common.{◌≡◌, ◌∙◌, ◌-◌, ◌+◌, ◌≤◌, ℕ, List, [], ◌∷◌, true, false, sym, ap, refl, arith, length}
use Rattle.mxf_klv.proofs.Common.{map, min, drop, take, nat_lt, AllWithin, cond, NoteParts, slice_cmp}
use Rattle.mxf_klv.proofs.Common.{nat_cmp, length-drop, length-take}
use Rattle.mxf_klv.proofs.Common.{IsTotalOrder, eq_by_cmp}
use Rattle.std.specs.Cmp.Lexicographic.{nat_list_cmp_total}
use Rattle.std.proofs.lemmas.Map.Text.{is_eq-slice_cmp}
use Rattle.mxf_klv.proofs.Sides.{side_by, sides_run}
use Rattle.mxf_klv.proofs.Counts.{count_by-cons}
use Rattle.mxf_klv.proofs.Lists.{filter_alike}
use Rattle.std.proofs.Common.{IsPermutation, bytes_eq}
use Rattle.std.proofs.lemmas.List.Sums.{length-filter}
use Rattle.std.proofs.lemmas.List.Sorted.{sum_by-IsPermutation}
use Rattle.std.specs.List.Sorted.{IsSorted}
use Rattle.mxf_doubts.specs.Strange.{AreKeysOf, bare_key, count_of, count_with, has_bare_key}

counted_map : (key : List ℕ) (notes : List NoteParts)
    → count_of key (map (λ n. bare_key n.key) notes) ≡ count_with key notes
counted_map key [] = refl
counted_map key (n ∷ notes) =
    count_by-cons (λ other. bytes_eq other (bare_key key)) (bare_key n.key) (map (λ n. bare_key n.key) notes)
    ∙ ap (λ c. cond (bytes_eq (bare_key n.key) (bare_key key)) 1 0 + c) (counted_map key notes)
    ∙ sym (count_by-cons (has_bare_key key) n notes)

-- Sorted, the keys of the notes are as many of each as before.
pub keys_of : (notes : List NoteParts) (keys sorted : List (List ℕ)) → keys ≡ map (λ n. bare_key n.key) notes
    → IsPermutation keys sorted → IsSorted (slice_cmp nat_cmp) sorted → AreKeysOf notes sorted
keys_of notes keys sorted e p s = record {
  sorted = s;
  counted = λ key. sum_by-IsPermutation (λ (k : List ℕ). cond (bytes_eq k (bare_key key)) 1 0) keys sorted p
      ∙ ap (count_of key) e ∙ counted_map key notes;
}

pub keys_total : IsTotalOrder (slice_cmp nat_cmp)
keys_total = nat_list_cmp_total

between : {X : Type 0} (xs : List X) (a b : ℕ) → b ≤ length xs → length (drop (min a b) (take b xs)) ≡ b - min a b
between xs a b h = length-drop (min a b) (take b xs) ∙ ap (λ n. n - min a b) (length-take b xs ∙ omega (arith, h))

-- Between those below a key and those above it stand those that are the key.
pub counted_between : (key : List ℕ) (xs : List (List ℕ)) (a b : ℕ) → b ≤ length xs
    → AllWithin (λ x. nat_lt (side_by (slice_cmp nat_cmp) (λ (k : List ℕ). k) (bare_key key) x) 1 ≡ true) xs 0 a
    → AllWithin (λ x. nat_lt (side_by (slice_cmp nat_cmp) (λ (k : List ℕ). k) (bare_key key) x) 1 ≡ false) xs a (length xs)
    → AllWithin (λ x. nat_lt (side_by (slice_cmp nat_cmp) (λ (k : List ℕ). k) (bare_key key) x) 2 ≡ true) xs 0 b
    → AllWithin (λ x. nat_lt (side_by (slice_cmp nat_cmp) (λ (k : List ℕ). k) (bare_key key) x) 2 ≡ false) xs b (length xs)
    → b - min a b ≡ count_of key xs
counted_between key xs a b within below from up_to above =
    sym (between xs a b within)
    ∙ ap (λ (l : List (List ℕ)). length l)
    (sides_run (slice_cmp nat_cmp) (λ (k : List ℕ). k) (bare_key key) xs a b within below from up_to above
    ∙ filter_alike (λ x. eq_by_cmp (slice_cmp nat_cmp) x (bare_key key)) (λ x. bytes_eq x (bare_key key)) xs
    (λ x i. is_eq-slice_cmp x (bare_key key)))
    ∙ length-filter (λ (k : List ℕ). bytes_eq k (bare_key key)) xs
