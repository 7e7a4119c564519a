-- What is asked of a verification, and what it leaves open (this project's profile).
use Rattle.std.specs.Prelude.{◌≡◌, ◌==◌, ◌&&◌, not, if◌then◌else◌, ◌+◌, ℕ, Bool, Option, None, Some}
use Rattle.mxf_units.specs.Units.{UnitsParts}
use Rattle.mxf_units.specs.declared.range.UnitRange.{UnitRange}
use Rattle.mxf_verify.specs.Fixities.{AreVerifiedUnits, VerifiedUnitsParts}
use Rattle.mxf_verify.specs.Verifications.{VerificationParts}
use Rattle.mxf_lines.specs.VerificationLines.{has_none}
use Rattle.mxf_tool.specs.declared.program.verifying.Open.{Open}
use Rattle.mxf_tool.specs.declared.program.verifying.Open.TheVariants.{NoneSame, NotAll}

-- They are what is told of the units of the range, beside what was verified of the notes.
abbrev pub AreToldOf : VerificationParts → UnitsParts → UnitRange → VerifiedUnitsParts → Type 0
AreToldOf v units range told =
    (last : ℕ) × (last + 1 ≡ range.first + range.count)
    × AreVerifiedUnits v.verified v.altered units range.first last told

-- What is told on a terminal: that no packet is the same, though bytes came; or that not all of the reference was
-- compared, if that wasn't asked for.
abbrev pub open_of : Bool → VerificationParts → Option Open
open_of is_whole v =
    if v.packets == 0 && v.came then Some NoneSame else
    (if not is_whole && not (has_none v.unverified) then Some NotAll else None)
