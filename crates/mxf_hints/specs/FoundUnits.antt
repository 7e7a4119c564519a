-- The edit units that are found by what is asked for (this project's profile).
use Rattle.std.specs.Prelude.{◌≡◌, ◌⊎◌, ◌==◌, ℕ, List, [], Option, None, Some, Result, Ok, Err, filter}
use Rattle.mxf_clocks.specs.Clocks.{ClocksParts}
use Rattle.mxf_clocks.specs.Runs.{RunParts}
use Rattle.mxf_places.specs.AtHand.{KnownParts}
use Rattle.mxf_units.specs.Units.{UnitsParts}
use Rattle.mxf_asked.specs.declared.units.IndexedUnits.{IndexedUnits}
use Rattle.mxf_hints.specs.AskedIndexes.{IsIndexOf}
use Rattle.mxf_hints.specs.AskedUnits.{AreAsked}
use Rattle.mxf_hints.specs.declared.fault.RunFault.{RunFault}
use Rattle.mxf_hints.specs.declared.fault.RunFault.TheVariants as runs
use Rattle.mxf_hints.specs.declared.found.FoundUnits.{FoundUnits}

-- The runs of all clocks, and those of the clock of an index.
abbrev pub runs_of : Option ClocksParts → List RunParts
runs_of None = []
runs_of (Some clocks) = clocks.runs

abbrev pub clock_of : Option ClocksParts → ℕ → List RunParts
clock_of clocks index = filter (λ r. r.index_sid == index) (runs_of clocks)

-- The units of an index of what is known.
abbrev pub units_by : KnownParts → ℕ → UnitsParts
units_by known index = record { known = known; index_sid = index }

-- The units of the index that is meant, and those of them that are asked for by its clock; or why there are none.
abbrev pub AreFound : KnownParts → Option ClocksParts → IndexedUnits → Result FoundUnits RunFault → Type 0
AreFound known clocks asked (Ok found) =
    (index : ℕ) × IsIndexOf known.notes (runs_of clocks) asked (Ok index) × (found.units ≡ units_by known index)
    × AreAsked (units_by known index) (clock_of clocks index) asked.units (Ok found.span)
AreFound known clocks asked (Err fault) =
    (fault ≡ runs.OutOfMemory) ⊎ (IsIndexOf known.notes (runs_of clocks) asked (Err fault)
    ⊎ ((index : ℕ) × IsIndexOf known.notes (runs_of clocks) asked (Ok index)
    × AreAsked (units_by known index) (clock_of clocks index) asked.units (Err fault)))
