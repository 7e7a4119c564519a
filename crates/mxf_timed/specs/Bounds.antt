-- Units that are asked for by timecodes and by numbers (this project's profile). Positions are units as they are shown;
-- the units that are answered are counted as they are stored.
use Rattle.std.specs.Prelude.{◌≡◌, ◌≤◌, ◌<◌, ℕ, List, Option, None, Some, Result, Ok, Err}
use Rattle.mxf_timed.specs.declared.timecode_word.TimecodeWord.{TimecodeWord}
use Rattle.mxf_timed.specs.declared.asked.UnitBound.{UnitBound}
use Rattle.mxf_timed.specs.declared.asked.UnitBound.TheVariants.{Number, Timecode}
use Rattle.mxf_views.specs.Places.{greatest_unit}
use Rattle.mxf_clocks.specs.Runs.{RunParts}
use Rattle.mxf_units.specs.Units.{UnitsParts}
use Rattle.mxf_timed.specs.Positions.{IsAnswer, IsRange}
use Rattle.mxf_timed.specs.Stored.{IsGreatestStored, IsLeastStored, IsStoredBy, stored_at}
use Rattle.mxf_timed.specs.declared.asked.Bound.{Bound}
use Rattle.mxf_timed.specs.declared.asked.Bound.TheVariants.{From, To}
use Rattle.mxf_timed.specs.declared.asked.StoredBounds.{StoredBounds}
use Rattle.mxf_timed.specs.declared.asked.TimecodeFault.{TimecodeFault}
use Rattle.mxf_timed.specs.declared.asked.TimecodeFault.TheVariants as faults
use Rattle.mxf_timed.specs.declared.positions.ShownAt.{ShownAt}
use Rattle.mxf_timed.specs.declared.positions.ShownAt.TheVariants as shown

-- What is answered where the bound is a timecode.
abbrev pub Shows : List RunParts → Option UnitBound → ShownAt → Type 0
Shows runs (Some (Timecode w)) answer = IsAnswer (IsRange runs w) answer
Shows runs (Some (Number n)) answer = ⊥
Shows runs None answer = ⊥

-- The positions begin there: at the first one with the timecode; at 0 where it is none.
abbrev pub BeginsAt : List RunParts → Option UnitBound → ℕ → Type 0
BeginsAt runs (Some (Timecode w)) first = (last : ℕ) × IsAnswer (IsRange runs w) (shown.At first last)
BeginsAt runs (Some (Number n)) first = first ≡ 0
BeginsAt runs None first = first ≡ 0

-- They end there: at the last one with the timecode; at the greatest that can be asked for where it is none.
abbrev pub EndsAt : List RunParts → Option UnitBound → ℕ → Type 0
EndsAt runs (Some (Timecode w)) last = (first : ℕ) × IsAnswer (IsRange runs w) (shown.At first last)
EndsAt runs (Some (Number n)) last = last ≡ greatest_unit
EndsAt runs None last = last ≡ greatest_unit

-- The timecode of one bound has no range of positions, or more than one.
abbrev pub FailsAs : Bound → List RunParts → Option UnitBound → TimecodeFault → Type 0
FailsAs at runs bound (faults.Nowhere b) = (b ≡ at) × Shows runs bound shown.Nowhere
FailsAs at runs bound (faults.Several b) = (b ≡ at) × Shows runs bound shown.Several
FailsAs at runs bound faults.LastBeforeFirst = ⊥

abbrev pub FailsFrom : List RunParts → Option UnitBound → TimecodeFault → Type 0
FailsFrom runs from fault = FailsAs From runs from fault

abbrev pub FailsTo : List RunParts → Option UnitBound → TimecodeFault → Type 0
FailsTo runs to fault = FailsAs To runs to fault

-- A number stands for itself, a timecode for the unit that is stored so; what isn't asked stays so.
abbrev pub IsBound : (ℕ → Type 0) → Option UnitBound → Option ℕ → Type 0
IsBound Stored (Some (Timecode w)) (Some unit) = Stored unit
IsBound Stored (Some (Timecode w)) None = ⊥
IsBound Stored (Some (Number n)) (Some unit) = unit ≡ n
IsBound Stored (Some (Number n)) None = ⊥
IsBound Stored None (Some unit) = ⊥
IsBound Stored None None = Unit {0}

-- The positions from the first up to the last, and the units that store them.
pub record AreBounds (u : UnitsParts) (runs : List RunParts) (from to : Option UnitBound) (b : StoredBounds)
    : Type 0 where
  pub first : ℕ
  pub last : ℕ
  pub begins : BeginsAt runs from first
  pub ends : EndsAt runs to last
  pub some : first ≤ last
  pub least : IsBound (IsLeastStored u first last) from b.from
  pub greatest : IsBound (IsGreatestStored u first last) to b.to

-- The positions end before they begin.
pub record EndsEarly (runs : List RunParts) (from to : Option UnitBound) : Type 0 where
  pub first : ℕ
  pub last : ℕ
  pub begins : BeginsAt runs from first
  pub ends : EndsAt runs to last
  pub early : last < first

-- The fault is that of the first; else that of the last; else the positions end before they begin.
abbrev pub IsFaultOf : List RunParts → Option UnitBound → Option UnitBound → TimecodeFault → Type 0
IsFaultOf runs from to (faults.Nowhere From) = Shows runs from shown.Nowhere
IsFaultOf runs from to (faults.Several From) = Shows runs from shown.Several
IsFaultOf runs from to (faults.Nowhere To) = ((first : ℕ) × BeginsAt runs from first) × Shows runs to shown.Nowhere
IsFaultOf runs from to (faults.Several To) = ((first : ℕ) × BeginsAt runs from first) × Shows runs to shown.Several
IsFaultOf runs from to faults.LastBeforeFirst = EndsEarly runs from to

abbrev pub AreStoredBounds : UnitsParts → List RunParts → Option UnitBound → Option UnitBound
    → Result StoredBounds TimecodeFault → Type 0
AreStoredBounds u runs from to (Ok b) = AreBounds u runs from to b
AreStoredBounds u runs from to (Err fault) = IsFaultOf runs from to fault

-- The units that are answered store each position from the first of one timecode up to the last of another, and both of
-- them one of these.
pub record LieBetween (u : UnitsParts) (runs : List RunParts) (v w : TimecodeWord) (b : StoredBounds) : Type 0 where
  pub first : ℕ
  pub first_end : ℕ
  pub from_range : IsAnswer (IsRange runs v) (shown.At first first_end)
  pub last_start : ℕ
  pub last : ℕ
  pub to_range : IsAnswer (IsRange runs w) (shown.At last_start last)
  pub least : ℕ
  pub from_is : b.from ≡ Some least
  pub greatest : ℕ
  pub to_is : b.to ≡ Some greatest
  pub each : (p : ℕ) → first ≤ p → p ≤ last → (least ≤ stored_at u p) × (stored_at u p ≤ greatest)
  pub least_stored : IsStoredBy u first last least
  pub greatest_stored : IsStoredBy u first last greatest
