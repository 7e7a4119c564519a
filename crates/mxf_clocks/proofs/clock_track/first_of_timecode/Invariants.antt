use Rattle.mxf_views.proofs.Common.{◌≡◌, drop, find}
use Rattle.mxf_clocks.specs.ClockTracks.{found_tracks, is_of_kind, is_timecode}
use Rattle.mxf_clocks.proofs.clock_track.first_of_timecode.Given as goal

abbrev pub invariant-loop-track : goal.invariant-loop-track
invariant-loop-track l =
    find (is_of_kind is_timecode) (found_tracks (drop l.track-index l.tracks))
    ≡ find (is_of_kind is_timecode) (found_tracks l.tracks)
