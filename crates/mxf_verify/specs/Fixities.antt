-- How edit units stand beside sources (this project's profile).
use Rattle.std.specs.Prelude.{◌≡◌, ◌≢◌, ◌⊎◌, ◌+◌, ◌-◌, ◌<◌, ◌≤◌, ℕ, Bool, true, false, Option, None, Some, List, []}
use Rattle.std.specs.Prelude.{◌∷◌, codes}
use Rattle.std.specs.Option.{option_map}
use Rattle.std.specs.List.{filter_map, range_with_len}
use Rattle.mxf_klv.specs.Note.{IsCovered}
use Rattle.mxf_klv.specs.Parts.{NoteParts}
use Rattle.mxf_klv.specs.Rising.{In, SameMembers}
use Rattle.mxf_catalogue.specs.Runs.{LiesIn}
use Rattle.mxf_catalogue.specs.declared.run.Run.{Run}
use Rattle.mxf_places.specs.AtHand.{KnownParts}
use Rattle.mxf_units.specs.Units.{UnitsParts, asked_end, unit_of}
use Rattle.mxf_units.specs.Words.{unit_standing_name}
use Rattle.mxf_units.specs.declared.standing.UnitStanding.{UnitStanding}
use Rattle.mxf_units.specs.declared.unit.EditUnit.{EditUnit}
use Rattle.mxf_units.specs.declared.unit.Extent.{Extent}
use Rattle.mxf_verify.specs.declared.fixity.UnitFixity.{UnitFixity}
use Rattle.mxf_verify.specs.declared.unit_places.UnitPlace.{UnitPlace}
use Rattle.mxf_verify.specs.declared.unit_places.UnitSpan.{UnitSpan}
use Rattle.mxf_verify.specs.declared.verified_units.UnitRun.{UnitRun}
use Rattle.mxf_verify.specs.declared.fixity.UnitFixity.TheVariants.{Differs, Unverified, Part, Verified, Unplaced}

-- Some byte of the extent lies in the runs. If its end isn't known, its first byte alone is asked about.
abbrev pub Meets : List Run → Extent → Type 0
Meets runs e = (at : ℕ) × (e.start ≤ at) × (at < asked_end e) × LiesIn runs at

-- The end of the extent is known, and each byte up to there lies in the runs.
abbrev pub LiesWholeIn : List Run → Extent → Type 0
LiesWholeIn runs e =
    (end : ℕ) × (e.end ≡ Some end) × ((at : ℕ) → e.start ≤ at → at < end → LiesIn runs at)

-- It is known where the unit lies and ends, and this holds of each of its bytes.
pub record HasEachByte (P : ℕ → Type 0) (unit : EditUnit) : Type 0 where
  pub extent : Extent
  pub end : ℕ
  pub lies : unit.extent ≡ Some extent
  pub ends : extent.end ≡ Some end
  pub bytes : (at : ℕ) → extent.start ≤ at → at < end → P at

-- How bytes of an extent stand when these runs are verified and those differ.
abbrev pub IsFixityIn : List Run → List Run → Extent → UnitFixity → Type 0
IsFixityIn verified altered e Differs = Meets altered e
IsFixityIn verified altered e Unverified = ¬ Meets altered e × ¬ Meets verified e
IsFixityIn verified altered e Part = ¬ Meets altered e × Meets verified e × ¬ LiesWholeIn verified e
IsFixityIn verified altered e Verified = ¬ Meets altered e × Meets verified e × LiesWholeIn verified e
IsFixityIn verified altered e (Unplaced standing) = ⊥

-- How a unit stands. If its place isn't given, it stands as by the reference alone.
abbrev pub IsFixityBy : List Run → List Run → UnitStanding → Option Extent → UnitFixity → Type 0
IsFixityBy verified altered standing None fixity = fixity ≡ Unplaced standing
IsFixityBy verified altered standing (Some e) fixity = IsFixityIn verified altered e fixity

abbrev pub IsFixityOf : List Run → List Run → EditUnit → UnitFixity → Type 0
IsFixityOf verified altered unit fixity = IsFixityBy verified altered unit.standing unit.extent fixity

-- The words for it.
abbrev pub fixity_name : UnitFixity → List ℕ
fixity_name Differs = codes "differs"
fixity_name Unverified = codes "unverified"
fixity_name Part = codes "part"
fixity_name Verified = codes "verified"
fixity_name (Unplaced standing) = unit_standing_name standing

-- The next run stands otherwise.
abbrev pub IsOtherNext : UnitRun → List UnitRun → Type 0
IsOtherNext r [] = Unit {0}
IsOtherNext r (next ∷ runs) = r.fixity ≢ next.fixity

-- The units from one up to another, in maximal runs of units that stand alike.
abbrev pub AreUnitRuns : (ℕ → UnitFixity → Type 0) → ℕ → ℕ → List UnitRun → Type 0
AreUnitRuns P from to [] = to < from
AreUnitRuns P from to (r ∷ runs) =
    (r.first ≡ from) × (from ≤ r.last) × (r.last ≤ to) × ((unit : ℕ) → from ≤ unit → unit ≤ r.last → P unit r.fixity)
    × IsOtherNext r runs × AreUnitRuns P (r.last + 1) to runs

-- How many units runs have of which this is so.
abbrev pub units_in : List UnitRun → ℕ
units_in [] = 0
units_in (r ∷ runs) = (r.last + 1 - r.first) + units_in runs

abbrev pub is_verified : UnitFixity → Bool
is_verified Verified = true
is_verified _ = false

-- Where a unit lies, as far as that is given.
abbrev pub place_of : EditUnit → Option UnitPlace
place_of unit = option_map (λ e. record { unit = unit.number; extent = e }) unit.extent

-- The places of the units from one up to another that have one, in the order of the units.
abbrev pub places_of : KnownParts → ℕ → ℕ → ℕ → List UnitPlace
places_of known index_sid from to =
    filter_map (λ unit. place_of (unit_of known index_sid unit)) (range_with_len from (to + 1 - from))

-- The place shares a byte with those that a note holds; one whose end isn't known is its first byte.
abbrev pub IsTouched : NoteParts → UnitPlace → Type 0
IsTouched n p = (at : ℕ) × IsCovered n at × (p.extent.start ≤ at) × (at < asked_end p.extent)

-- The unit is the least of those with the first place that the note touches: no other begins before it.
pub record IsFirstTouched (places : List UnitPlace) (n : NoteParts) (unit : ℕ) : Type 0 where
  pub place : UnitPlace
  pub is_one : In place places
  pub touched : IsTouched n place
  pub unit_is : place.unit ≡ unit
  pub first : (p : UnitPlace) → In p places → IsTouched n p
      → (place.extent.start < p.extent.start) ⊎ ((place.extent.start ≡ p.extent.start) × (unit ≤ p.unit))

-- The unit is the greatest of those with the last place that the note touches: no other ends after it.
pub record IsLastTouched (places : List UnitPlace) (n : NoteParts) (unit : ℕ) : Type 0 where
  pub place : UnitPlace
  pub is_one : In place places
  pub touched : IsTouched n place
  pub unit_is : place.unit ≡ unit
  pub last : (p : UnitPlace) → In p places → IsTouched n p
      → (asked_end p.extent < asked_end place.extent)
      ⊎ ((asked_end p.extent ≡ asked_end place.extent) × (p.unit ≤ unit))

-- The units of a note: the first and the last that it touches, if it touches any.
abbrev pub AreUnitsOf : List UnitPlace → NoteParts → Option UnitSpan → Type 0
AreUnitsOf places n None = (p : UnitPlace) → In p places → ¬ IsTouched n p
AreUnitsOf places n (Some s) = IsFirstTouched places n s.first × IsLastTouched places n s.last

-- What is said of units beside sources.
pub record VerifiedUnitsParts : Type 0 where
  pub runs : List UnitRun
  pub places : List UnitPlace

-- That of the units from one up to another of an index, when these runs are verified and those differ.
pub record AreVerifiedUnits (verified altered : List Run) (units : UnitsParts) (from to : ℕ) (v : VerifiedUnitsParts)
    : Type 0 where
  pub runs : AreUnitRuns (λ unit fixity. IsFixityOf verified altered (unit_of units.known units.index_sid unit) fixity)
      from to v.runs
  pub places : SameMembers v.places (places_of units.known units.index_sid from to)
