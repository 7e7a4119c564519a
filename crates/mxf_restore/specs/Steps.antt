-- First claims of all offsets, as steps that rise: what a step says holds from its offset up to the next one's.
use Rattle.std.specs.Prelude.{◌≡◌, ℕ, Bool, true, false, ◌<◌, ◌≤◌, ◌^◌, nat_le, if◌then◌else◌, Option, None, List, []}
use Rattle.std.specs.Prelude.{◌∷◌, find, map}
use Rattle.std.specs.Option.{option_or}
use Rattle.mxf_places.specs.Claims.{is_claimed}
use Rattle.mxf_places.specs.declared.claim.Claim.{Claim}
use Rattle.mxf_restore.specs.declared.first.Step.{Step}

-- What holds at an offset: what the last step at or below it says, or what held before all.
abbrev pub value_from : Option Claim → List Step → ℕ → Option Claim
value_from before [] x = before
value_from before (s ∷ steps) x = if nat_le s.from x then value_from s.claim steps x else before

-- The offsets of the steps don't fall, from one on.
abbrev pub NeverFall : ℕ → List Step → Type 0
NeverFall low [] = Unit {0}
NeverFall low (s ∷ steps) = (low ≤ s.from) × NeverFall s.from steps

-- The steps give the first claim of each offset below 2^64.
pub record AreSteps (claims : List Claim) (steps : List Step) : Type 0 where
  pub never_fall : NeverFall 0 steps
  pub tell : (x : ℕ) → x < 2 ^ 64 → value_from None steps x ≡ find (is_claimed x) claims

abbrev pub step : ℕ → Option Claim → Option Claim → Step
step from upper lower = record { from = from; claim = option_or upper lower }

-- Steps in which those of one list go before those of another: at each offset what the first list says if it says
-- anything, otherwise what the second does. After the first list it is the second's.
abbrev pub overlay_with : (Option Claim → List Step → List Step) → Option Claim → Step → Option Claim → List Step
    → List Step
overlay_with rest upper a lower [] = step a.from a.claim lower ∷ rest lower []
overlay_with rest upper a lower (b ∷ below) =
    if nat_le a.from b.from then step a.from a.claim lower ∷ rest lower (b ∷ below)
    else step b.from upper b.claim ∷ overlay_with rest upper a b.claim below

abbrev pub overlay : Option Claim → List Step → Option Claim → List Step → List Step
overlay upper [] lower below = map (λ s. step s.from upper s.claim) below
overlay upper (a ∷ above) lower below = overlay_with (overlay a.claim above) upper a lower below

-- The first of the upper steps goes next.
abbrev pub goes_first : List Step → List Step → Bool
goes_first [] below = false
goes_first (a ∷ above) [] = true
goes_first (a ∷ above) (b ∷ below) = nat_le a.from b.from
