-- The timecodes of runs (labels of a day as in ST 12-1).
use Rattle.std.specs.Prelude.{◌-◌, pos, ℕ, Option}
use Rattle.std.specs.Option.{option_and_then}
use Rattle.mxf_tracks.specs.Timecodes.{timecode_of}
use Rattle.mxf_tracks.specs.declared.timecode.Timecode.{Timecode}
use Rattle.mxf_clocks.specs.Runs.{RunParts, number_after, number_at}

-- The timecode with a number of the run.
abbrev pub timecode_with : RunParts → ℕ → Option Timecode
timecode_with r number = timecode_of (pos number) r.base r.is_drop

-- The timecode of a position that the run has.
abbrev pub timecode_at : RunParts → ℕ → Option Timecode
timecode_at r position = option_and_then (timecode_with r) (number_at r position)

-- The timecode of the last position, if there is one.
abbrev pub last_timecode : RunParts → Option Timecode
last_timecode r = option_and_then (λ c. timecode_with r (number_after r (c - 1))) r.count
