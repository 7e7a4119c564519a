-- Which claim of an offset goes first (this project's profile).
use Rattle.std.specs.Prelude.{◌≡◌, ℕ, ◌<◌, ◌≤◌, ◌⊎◌, Option, None, Some, List, [], ◌∷◌}
use Rattle.std.specs.List.{AllByRecursion}
use Rattle.mxf_klv.specs.Parts.{NoteParts}
use Rattle.mxf_places.specs.Named.{IsClaim}
use Rattle.mxf_places.specs.declared.claim.Claim.{Claim}
use Rattle.mxf_places.specs.declared.reason.Reason.{Reason}
use Rattle.mxf_places.specs.declared.reason.Reason.TheVariants.{Header, Footer, Metadata, Index, Entry, Previous, Gap}
use Rattle.mxf_places.specs.declared.reason.Reason.TheVariants as reasons

-- The place of a reason in the order of what helps most.
abbrev pub reason_rank : Reason → ℕ
reason_rank Header = 0
reason_rank Footer = 1
reason_rank Metadata = 2
reason_rank Index = 3
reason_rank Entry = 4
reason_rank Previous = 5
reason_rank Gap = 6
reason_rank reasons.Front = 7
reason_rank reasons.Unit = 8

-- The claim speaks of the offset.
abbrev pub SpeaksOf : Claim → ℕ → Type 0
SpeaksOf c x = (c.from ≤ x) × (x < c.end)

-- The source is no greater than another; none is the least.
abbrev pub IsSourceUpTo : Option ℕ → Option ℕ → Type 0
IsSourceUpTo None source = Unit {0}
IsSourceUpTo (Some x) None = ⊥
IsSourceUpTo (Some x) (Some y) = x ≤ y

-- The claim doesn't go after another: its reason helps more, or they have one reason, and its source is no greater.
abbrev pub GoesUpTo : Claim → Claim → Type 0
GoesUpTo c d =
    (reason_rank c.reason < reason_rank d.reason) ⊎ ((c.reason ≡ d.reason) × IsSourceUpTo c.source d.source)

-- No claim goes after a later one.
abbrev pub AreInOrder : List Claim → Type 0
AreInOrder [] = Unit {0}
AreInOrder (c ∷ claims) = AllByRecursion (GoesUpTo c) claims × AreInOrder claims

-- Of the claims that speak of the offset it is the one that goes first.
pub record IsFirstClaim (notes : List NoteParts) (x : ℕ) (c : Claim) : Type 0 where
  pub claim : IsClaim notes c
  pub speaks : SpeaksOf c x
  pub first : (d : Claim) → IsClaim notes d → SpeaksOf d x → GoesUpTo c d
