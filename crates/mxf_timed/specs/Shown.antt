-- Which position a unit shows: the one that it stores, if that is one alone (this project's profile).
use Rattle.std.specs.Prelude.{◌≡◌, ◌≢◌, ◌↔◌, ◌+◌, ◌-◌, ◌<◌, ◌≤◌, ℕ, nat_lt, if◌then◌else◌, List, Option, None, Some}
use Rattle.std.specs.Prelude.{length, max, min, slice_get, slice_range}
use Rattle.std.specs.List.{filter_map, reduce}
use Rattle.std.specs.Option.{option_and_then}
use Rattle.mxf_views.specs.Places.{greatest_unit}
use Rattle.mxf_tracks.specs.declared.timecode.Timecode.{Timecode}
use Rattle.mxf_clocks.specs.Runs.{RunParts}
use Rattle.mxf_units.specs.Units.{UnitsParts}
use Rattle.mxf_timed.specs.Coverage.{IsTimecodeAt, one_timecode_at}
use Rattle.mxf_timed.specs.Stored.{stored_at}
use Rattle.mxf_timed.specs.declared.shown.Stored.{Stored}
use Rattle.mxf_timed.specs.declared.shown.Stored.TheVariants.{Nothing, One, Several}
use Rattle.mxf_timed.specs.declared.timecodes.ShownEnds.{ShownEnds}

-- The position, one that can be asked for, is stored in the unit.
pub record IsStoredIn (u : UnitsParts) (unit position : ℕ) : Type 0 where
  pub asked : position ≤ greatest_unit
  pub there : stored_at u position ≡ unit

-- It is stored in the unit, and no other is.
pub record IsShownBy (u : UnitsParts) (unit position : ℕ) : Type 0 where
  pub stored : IsStoredIn u unit position
  pub only : (other : ℕ) → IsStoredIn u unit other → other ≡ position

-- What is kept of units one after another, from a first one on: what each stores.
pub record ShownParts : Type 0 where
  pub first : ℕ
  pub stored : List Stored

abbrev pub only_one : Stored → Option ℕ
only_one Nothing = None
only_one (One position) = Some position
only_one Several = None

-- The position that a unit shows by what is kept.
abbrev pub shown_by : ShownParts → ℕ → Option ℕ
shown_by s unit = if nat_lt unit s.first then None else option_and_then only_one (slice_get s.stored (unit - s.first))

-- It tells which position is shown by each unit from the first one on, so many; it tells of no others.
abbrev pub AreShown : UnitsParts → ℕ → ℕ → ShownParts → Type 0
AreShown u first count s =
    (unit position : ℕ)
    → (shown_by s unit ≡ Some position) ↔ ((first ≤ unit) × (unit < first + count) × IsShownBy u unit position)

-- The position is shown by a unit from one up to another.
pub record IsShownWithin (s : ShownParts) (first last position : ℕ) : Type 0 where
  pub unit : ℕ
  pub from : first ≤ unit
  pub to : unit ≤ last
  pub shown : shown_by s unit ≡ Some position

-- The least position that one of these shows; none if none does.
pub record IsLeastShown (s : ShownParts) (first last least : ℕ) : Type 0 where
  pub some : IsShownWithin s first last least
  pub no_less : (position : ℕ) → IsShownWithin s first last position → least ≤ position

-- The greatest one.
pub record IsGreatestShown (s : ShownParts) (first last greatest : ℕ) : Type 0 where
  pub some : IsShownWithin s first last greatest
  pub no_greater : (position : ℕ) → IsShownWithin s first last position → position ≤ greatest

abbrev pub IsNoneShown : ShownParts → ℕ → ℕ → Type 0
IsNoneShown s first last = (position : ℕ) → ¬ IsShownWithin s first last position

-- The same as functions. A law ties them to the relations.

abbrev pub stored_within : ShownParts → ℕ → ℕ → List Stored
stored_within s first last =
    let end = min (last + 1 - s.first) (length s.stored) in slice_range s.stored (min (first - s.first) end) end

abbrev pub least_shown : ShownParts → ℕ → ℕ → Option ℕ
least_shown s first last = reduce min (filter_map only_one (stored_within s first last))

abbrev pub greatest_shown : ShownParts → ℕ → ℕ → Option ℕ
greatest_shown s first last = reduce max (filter_map only_one (stored_within s first last))

-- ---- which timecode is shown

-- What is kept of units one after another, and the runs of a clock.
pub record TimedParts : Type 0 where
  pub shown : ShownParts
  pub runs : List RunParts

-- It tells of so many units from the first one on, by these runs.
pub record AreTimed (u : UnitsParts) (runs : List RunParts) (first count : ℕ) (t : TimedParts) : Type 0 where
  pub shown : AreShown u first count t.shown
  pub runs_are : t.runs ≡ runs

-- The unit is one of so many from a first one on, and shows a position that has this timecode by the one run that has
-- it.
pub record ShowsTimecode (u : UnitsParts) (runs : List RunParts) (first count unit : ℕ) (t : Timecode) : Type 0 where
  pub from : first ≤ unit
  pub within : unit < first + count
  pub position : ℕ
  pub shown : IsShownBy u unit position
  pub timecode : IsTimecodeAt runs position t

-- The timecode of the position that a unit shows.
abbrev pub timecode_shown : TimedParts → ℕ → Option Timecode
timecode_shown t unit = option_and_then (one_timecode_at t.runs) (shown_by t.shown unit)

-- Those of the least and the greatest position that units from one up to another show.
abbrev pub timecodes_shown : TimedParts → ℕ → ℕ → ShownEnds
timecodes_shown t first last = record {
  first = option_and_then (one_timecode_at t.runs) (least_shown t.shown first last);
  last = option_and_then (one_timecode_at t.runs) (greatest_shown t.shown first last);
}

-- ---- what a unit stores of some positions

-- With one position more.
abbrev pub with_position : Stored → ℕ → Stored
with_position Nothing position = One position
with_position (One other) position = Several
with_position Several position = Several

-- The position is one of those from one on up to an end, and is stored in the unit.
pub record IsStoredWithin (u : UnitsParts) (from end unit position : ℕ) : Type 0 where
  pub from_on : from ≤ position
  pub below : position < end
  pub there : stored_at u position ≡ unit

-- What the unit stores of those positions.
abbrev pub Stores : UnitsParts → ℕ → ℕ → ℕ → Stored → Type 0
Stores u from end unit Nothing = (p : ℕ) → ¬ IsStoredWithin u from end unit p
Stores u from end unit (One position) =
    IsStoredWithin u from end unit position × ((p : ℕ) → IsStoredWithin u from end unit p → p ≡ position)
Stores u from end unit Several =
    (p q : ℕ) × IsStoredWithin u from end unit p × IsStoredWithin u from end unit q × (p ≢ q)

-- What each of the units from a first one on stores of those positions.
abbrev pub AreStored : UnitsParts → ℕ → ℕ → ℕ → List Stored → Type 0
AreStored u from end first stored =
    (k : ℕ) (s : Stored) → slice_get stored k ≡ Some s → Stores u from end (first + k) s

-- Beside what units from a first one on store, the position that a unit stores.
pub record IsWithPosition (first unit position : ℕ) (old new : List Stored) : Type 0 where
  pub others : (k : ℕ) → first + k ≢ unit → slice_get new k ≡ slice_get old k
  pub one : (k : ℕ) → first + k ≡ unit
      → slice_get new k ≡ option_and_then (λ s. Some (with_position s position)) (slice_get old k)
