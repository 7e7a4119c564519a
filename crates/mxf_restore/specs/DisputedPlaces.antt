-- Places that matter and are held in two readings (this project's profile).
use Rattle.std.specs.Prelude.{◌≡◌, ◌⊎◌, ℕ, ◌+◌, true, List}
use Rattle.mxf_klv.specs.Parts.{NoteParts}
use Rattle.mxf_places.specs.FirstClaims.{GoesUpTo}
use Rattle.mxf_places.specs.Held.{IsDisputedAt}
use Rattle.mxf_places.specs.Named.{IsClaim, IsInFile, IsOfStretch, Names}
use Rattle.mxf_places.specs.declared.claim.Claim.{Claim}
use Rattle.mxf_restore.specs.declared.plan.DisputedPlace.{DisputedPlace}

-- The place that a claim speaks of: the one that a pack names, or the last byte of an open stretch.
abbrev pub IsPointOf : Claim → ℕ → Type 0
IsPointOf c x = Names c x ⊎ (IsOfStretch c × (c.is_open ≡ true) × (x + 1 ≡ c.end))

-- A place that some claim speaks of, that may lie in the file, and that a disputed packet covers. Its reason and its
-- source are those of the claim that goes first.
pub record IsDisputedPlace (notes : List NoteParts) (d : DisputedPlace) : Type 0 where
  pub by : Claim
  pub claim : IsClaim notes by
  pub point : IsPointOf by d.place
  pub first : (c : Claim) → IsClaim notes c → IsPointOf c d.place → GoesUpTo by c
  pub in_file : IsInFile notes d.place
  pub disputed : IsDisputedAt notes d.place
  pub reason : d.reason ≡ by.reason
  pub source : d.source ≡ by.source
