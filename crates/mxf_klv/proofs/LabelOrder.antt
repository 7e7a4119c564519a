-- Labels go by the bytes after those that each of them begins with.
use Rattle.mxf_klv.proofs.Common.{nat_cmp, slice_cmp, sym, ◌∙◌, ap, take-append-drop, IsLabel, label_start}
use Rattle.std.specs.Prelude.{◌≡◌, ℕ, List, ◌++◌, drop}

parts : (a : List ℕ) → IsLabel a → label_start ++ drop 4 a ≡ a
parts a h = ap (λ (s : List ℕ). s ++ drop 4 a) (sym h.1) ∙ take-append-drop 4 a

-- the order of the tails is the order of the labels
pub cmp-tails : (a b : List ℕ) → IsLabel a → IsLabel b → slice_cmp nat_cmp (drop 4 a) (drop 4 b) ≡ slice_cmp nat_cmp a b
cmp-tails a b h k = λ i. slice_cmp nat_cmp (parts a h i) (parts b k i)
