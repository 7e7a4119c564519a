-- Edit units that are more than are listed one by one (this project's profile).
use Rattle.std.specs.Prelude.{◌≡◌, ℕ, ◌+◌, ◌-◌, ◌^◌, ◌<◌, ◌⊎◌, false, Option, None, Some, Result, Ok, Err, List, [], ◌∷◌}
use Rattle.mxf_units.specs.EvenUnits.{AreEven, EvenParts, counts_of, lists_units}
use Rattle.mxf_units.specs.Extents.{IsTold}
use Rattle.mxf_units.specs.Ranges.{units_from}
use Rattle.mxf_units.specs.Units.{UnitsParts, location_of, unit_of}
use Rattle.mxf_units.specs.declared.even_units.UnitCounts.{UnitCounts}
use Rattle.mxf_units.specs.declared.location.Location.{Location}
use Rattle.mxf_units.specs.declared.standing.UnitStanding.{UnitStanding}
use Rattle.mxf_units.specs.declared.unit.Extent.{Extent}
use Rattle.mxf_partial.specs.Wanted.{WantedParts, reach_of}

-- What is wanted of many units, and how many of them are held and at hand, as far as that is known.
pub record ManyParts : Type 0 where
  pub wanted : WantedParts
  pub counts : UnitCounts

-- The first and the last of the units are wanted, and perhaps bytes in place of theirs.
abbrev pub ends_wanted : UnitsParts → ℕ → ℕ → Option Extent → WantedParts
ends_wanted u first last bytes = record {
  units = u;
  first = first;
  count = last - first + 1;
  wanted = unit_of u.known u.index_sid first ∷ unit_of u.known u.index_sid last ∷ [];
  bytes = bytes;
}

-- From where the first begins up to where the bytes of the last may reach.
abbrev pub span_by : Result Location UnitStanding → Result Location UnitStanding → Option Extent
span_by (Ok first) (Ok last) = Some (record { start = first.extent.start; end = reach_of last })
span_by _ _ = None

abbrev pub span_of : UnitsParts → ℕ → ℕ → Option Extent
span_of u first last =
    span_by (location_of u.known.notes u.index_sid first) (location_of u.known.notes u.index_sid last)

-- It is given where the first and where the last lie.
abbrev pub AreToldEnds : UnitsParts → ℕ → ℕ → Type 0
AreToldEnds u first last =
    IsTold (unit_of u.known u.index_sid first).standing × IsTold (unit_of u.known u.index_sid last).standing

-- The units from the first to the last lie side by side.
pub record LieEven (u : UnitsParts) (first last : ℕ) : Type 0 where
  pub even : EvenParts
  pub units : even.units ≡ u
  pub begin : even.first ≡ first
  pub end : even.last ≡ last
  pub are : AreEven even

-- Units from a first one up to a later one, if no segment of their index lists units.
pub record MayBeMany (u : UnitsParts) (first last : ℕ) : Type 0 where
  pub order : first < last
  pub number : last < 2 ^ 63
  pub sized : lists_units u ≡ false

-- Of such units: as long as it isn't given where
-- the first and the last lie, these two alone are wanted, and none is counted. Then all bytes of all of them are wanted,
-- if they lie side by side, and each is counted as it stands.
pub data AreMany (u : UnitsParts) (first last : ℕ) (many : Option ManyParts) : Type 0 where
  Waiting : MayBeMany u first last → ¬ AreToldEnds u first last
      → many ≡ Some (record { wanted = ends_wanted u first last None; counts = record { held = 0; hand = 0 } })
      → AreMany u first last many
  Even : MayBeMany u first last → LieEven u first last
      → many ≡ Some (record {
        wanted = ends_wanted u first last (span_of u first last);
        counts = counts_of (units_from u first (last - first + 1));
      }) → AreMany u first last many
  Others : (¬ MayBeMany u first last) ⊎ (AreToldEnds u first last × (¬ LieEven u first last)) → many ≡ None
      → AreMany u first last many
