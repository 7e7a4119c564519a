-- The edit units that are asked for (this project's profile).
use Rattle.std.specs.Prelude.{⊤, ◌≡◌, ◌⊎◌, ℕ, ◌+◌, ◌<◌, ◌≤◌, [], List, Option, None, Some, Result, Ok, Err, unwrap_or}
use Rattle.std.specs.Option.{option_map}
use Rattle.mxf_klv.specs.Parts.{NoteParts}
use Rattle.mxf_clocks.specs.Runs.{RunParts}
use Rattle.mxf_views.specs.Places.{greatest_unit}
use Rattle.mxf_units.specs.LastUnits.{IsLastUnit}
use Rattle.mxf_units.specs.Units.{UnitsParts}
use Rattle.mxf_units.specs.declared.range.UnitRange.{UnitRange}
use Rattle.mxf_hints.specs.declared.unit_range.UnitSpan.{UnitSpan}
use Rattle.mxf_timed.specs.Bounds.{AreStoredBounds}
use Rattle.mxf_timed.specs.declared.asked.Bound.{Bound}
use Rattle.mxf_timed.specs.declared.asked.Bound.TheVariants.{From, To}
use Rattle.mxf_timed.specs.declared.asked.StoredBounds.{StoredBounds}
use Rattle.mxf_timed.specs.declared.asked.TimecodeFault.{TimecodeFault}
use Rattle.mxf_timed.specs.declared.asked.TimecodeFault.TheVariants as faults
use Rattle.mxf_timed.specs.declared.asked.UnitBound.{UnitBound}
use Rattle.mxf_asked.specs.declared.units.AskedUnits.{AskedUnits}
use Rattle.mxf_asked.specs.declared.units.NamedUnit.{NamedUnit}
use Rattle.mxf_hints.specs.declared.fault.RunFault.{RunFault}
use Rattle.mxf_hints.specs.declared.fault.RunFault.TheVariants as runs

-- What a word asks for, if there is one.
abbrev pub bound_of : Option NamedUnit → Option UnitBound
bound_of named = option_map (λ n. n.bound) named

-- The text of a word; none if there is no word.
abbrev pub text_of : Option NamedUnit → List ℕ
text_of None = []
text_of (Some named) = named.word.now

-- The word of a bound.
abbrev pub word_at : AskedUnits → Bound → List ℕ
word_at asked From = text_of asked.from
word_at asked To = text_of asked.to

-- The units from a first one up to a last one. If that is below the first, it is before it; above the greatest unit there
-- is none.
abbrev pub AreUpTo : ℕ → ℕ → Result UnitSpan RunFault → Type 0
AreUpTo first last (Ok span) =
    (span.first ≡ first) × (span.last ≡ last) × (first ≤ last) × (last ≤ greatest_unit)
AreUpTo first last (Err runs.LastBeforeFirst) = last < first
AreUpTo first last (Err runs.TooManyUnits) = greatest_unit < last
AreUpTo first last (Err _) = ⊥

-- The units from a first one up to the last one of the index. If that is below the first, or the index has none,
-- there is no last unit.
abbrev pub AreUpToLast : List NoteParts → ℕ → ℕ → Result UnitSpan RunFault → Type 0
AreUpToLast notes index_sid first (Ok span) =
    IsLastUnit notes index_sid span.last × (span.first ≡ first) × (first ≤ span.last) × (span.last ≤ greatest_unit)
AreUpToLast notes index_sid first (Err runs.NoLastUnit) = (last : ℕ) → IsLastUnit notes index_sid last → last < first
AreUpToLast notes index_sid first (Err runs.TooManyUnits) =
    (last : ℕ) × IsLastUnit notes index_sid last × (greatest_unit < last)
AreUpToLast notes index_sid first (Err _) = ⊥

-- Units are told one by one if they are 1,000,000 at most.
abbrev pub AreFew : UnitSpan → Result UnitRange RunFault → Type 0
AreFew span (Ok range) = (range.first ≡ span.first) × (range.first + range.count ≡ span.last + 1)
AreFew span (Err runs.LastBeforeFirst) = span.last < span.first
AreFew span (Err runs.TooManyUnits) = (greatest_unit < span.last) ⊎ (span.first + 1000000 ≤ span.last)
AreFew span (Err _) = ⊥

-- From the first one that is known, or from 0, up to the last one that is known, or the last one of the index.
abbrev pub AreFrom : UnitsParts → ℕ → Option ℕ → Result UnitSpan RunFault → Type 0
AreFrom u first (Some last) result = AreUpTo first last result
AreFrom u first None result = AreUpToLast u.known.notes u.index_sid first result

abbrev pub AreBounded : UnitsParts → StoredBounds → Result UnitSpan RunFault → Type 0
AreBounded u b result = AreFrom u (unwrap_or b.from 0) b.to result

-- The fault of timecodes, with the word that it is of.
abbrev pub IsFault : AskedUnits → TimecodeFault → RunFault → Type 0
IsFault asked (faults.Nowhere at) (runs.NoUnitAt word clock) = word.now ≡ word_at asked at
IsFault asked (faults.Several at) (runs.SeveralUnitsAt word) = word.now ≡ word_at asked at
IsFault asked faults.LastBeforeFirst runs.LastBeforeFirst = ⊤
IsFault asked _ _ = ⊥

-- The units that words ask for: those from a first one up to a last one that timecodes and numbers say by the runs of a
-- clock, or the fault of a timecode, or that of the first and the last one.
pub data AreAsked (u : UnitsParts) (clock : List RunParts) (asked : AskedUnits) (result : Result UnitSpan RunFault)
    : Type 0 where
  ByBounds : (b : StoredBounds) → AreStoredBounds u clock (bound_of asked.from) (bound_of asked.to) (Ok b)
      → AreBounded u b result → AreAsked u clock asked result
  ByFault : (fault : TimecodeFault) (ends : RunFault)
      → AreStoredBounds u clock (bound_of asked.from) (bound_of asked.to) (Err fault) → IsFault asked fault ends
      → result ≡ Err ends → AreAsked u clock asked result
