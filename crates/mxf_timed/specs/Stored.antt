-- Which unit stores a position (ST 377-1, Index Table Segment: the picture shown at a position is stored at the
-- position plus the TemporalOffset of its entry; what holds where that isn't known or no unit can lie there is this
-- project's profile).
use Rattle.std.specs.Prelude.{◌≡◌, ◌⊎◌, ◌≤◌, ◌+◌, ◌+ℤ◌, pos, negsuc, nat_le, if◌then◌else◌, ℕ, ℤ, Option, None, Some}
use Rattle.mxf_views.specs.Places.{greatest_unit}
use Rattle.mxf_units.specs.Units.{UnitsParts, unit_of}

-- The sum, if it is the number of a unit that can be asked for; the position otherwise.
abbrev pub unit_or : ℕ → ℤ → ℕ
unit_or position (pos unit) = if nat_le unit greatest_unit then unit else position
unit_or position (negsuc below) = position

-- The unit at a TemporalOffset from a position; the one with its number where that isn't known.
abbrev pub moved : ℕ → Option ℤ → ℕ
moved position None = position
moved position (Some offset) = unit_or position (pos position +ℤ offset)

-- The unit that stores the position.
abbrev pub stored_at : UnitsParts → ℕ → ℕ
stored_at u position = moved position (unit_of u.known u.index_sid position).temporal

-- The unit lies at the distance from the position, and can be asked for.
abbrev pub LiesAt : ℕ → ℤ → ℕ → Type 0
LiesAt position distance unit = (pos unit ≡ pos position +ℤ distance) × (unit ≤ greatest_unit)

-- Of the unit that stores a position with this TemporalOffset all is said: it lies there; where no unit does, or the
-- offset isn't known, it has the number of the position.
abbrev pub IsStoredAt : ℕ → Option ℤ → ℕ → Type 0
IsStoredAt position None unit = unit ≡ position
IsStoredAt position (Some offset) unit =
    LiesAt position offset unit ⊎ ((unit ≡ position) × ((x : ℕ) → ¬ LiesAt position offset x))

-- A unit lies at most 128 below the position, and at most 127 above it.
pub record IsNear (position unit : ℕ) : Type 0 where
  pub low : position ≤ unit + 128
  pub high : unit ≤ position + 127

-- A position from the first up to the last is stored there.
pub record IsStoredBy (u : UnitsParts) (first last unit : ℕ) : Type 0 where
  pub position : ℕ
  pub from : first ≤ position
  pub to : position ≤ last
  pub stored : stored_at u position ≡ unit

-- The least unit that stores one of these positions.
pub record IsLeastStored (u : UnitsParts) (first last unit : ℕ) : Type 0 where
  pub some : IsStoredBy u first last unit
  pub each : (p : ℕ) → first ≤ p → p ≤ last → unit ≤ stored_at u p

-- The greatest.
pub record IsGreatestStored (u : UnitsParts) (first last unit : ℕ) : Type 0 where
  pub some : IsStoredBy u first last unit
  pub each : (p : ℕ) → first ≤ p → p ≤ last → stored_at u p ≤ unit
