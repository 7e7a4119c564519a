-- The units of a text, one after another.
use Rattle.mxf_klv.proofs.Common.{◌≡◌, ℕ, ◌≤◌, ◌≢◌, List, ◌∷◌, length, take, drop, arith, ne_eqb, w16, from_be_bytes}
use Rattle.std.specs.Prelude.{◌==◌, not}
use Rattle.std.specs.List.{prefix_len}
use Rattle.mxf_sets.specs.Text.{text_units}

unit_first : (u : ℕ) (us : List ℕ) → u ≢ 0
    → take (prefix_len (λ x. not (x == 0)) (u ∷ us)) (u ∷ us) ≡ u ∷ take (prefix_len (λ x. not (x == 0)) us) us
unit_first u us h = grind (arith, ne_eqb u 0 h)

-- what comes of the next unit, where it is not zero
pub next_unit : (rest pair after : List ℕ) → 2 ≤ length rest → pair ≡ take 2 rest → after ≡ drop 2 rest
    → from_be_bytes w16 pair ≢ 0 → text_units rest ≡ from_be_bytes w16 pair ∷ text_units after
next_unit rest pair after h k e p = grind (arith, unit_first)
