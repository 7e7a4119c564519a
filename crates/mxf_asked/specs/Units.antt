-- The edit units that words ask for (this project's profile).
use Rattle.std.specs.Prelude.{ℕ, Bool, true, false, if◌then◌else◌, List, Option, None, Some}
use Rattle.mxf_asked.specs.declared.units.AskedUnits.{AskedUnits}
use Rattle.mxf_asked.specs.declared.units.NamedUnit.{NamedUnit}
use Rattle.mxf_timed.specs.declared.asked.UnitBound.{UnitBound}
use Rattle.mxf_timed.specs.declared.asked.UnitBound.TheVariants.{Number, Timecode}

abbrev pub is_timecode : UnitBound → Bool
is_timecode (Timecode word) = true
is_timecode (Number number) = false

-- The word, if it is a timecode; otherwise the other.
abbrev pub timecode_or : Option NamedUnit → Option (List ℕ) → Option (List ℕ)
timecode_or None other = other
timecode_or (Some named) other = if is_timecode named.bound then Some named.word.now else other

-- The first word that is a timecode.
abbrev pub timecode_in : AskedUnits → Option (List ℕ)
timecode_in asked = timecode_or asked.from (timecode_or asked.to None)
