-- Whether what is missing is header metadata by which a timecode has a unit (this project's profile).
use Rattle.std.specs.Prelude.{Bool, true, false, ◌&&◌, not, List}
use Rattle.mxf_klv.specs.Parts.{NoteParts}
use Rattle.mxf_clocks.specs.Clocks.{is_finished}
use Rattle.mxf_hints.specs.declared.fault.RunFault.{RunFault}
use Rattle.mxf_hints.specs.declared.fault.RunFault.TheVariants as runs

abbrev pub is_no_unit_at : RunFault → Bool
is_no_unit_at (runs.NoUnitAt word clock) = true
is_no_unit_at _ = false

-- No unit is at a timecode, and the preferred copy of the header metadata, if there is one, isn't finished.
abbrev pub waits_for_metadata : List NoteParts → RunFault → Bool
waits_for_metadata notes fault = not (is_finished notes) && is_no_unit_at fault
