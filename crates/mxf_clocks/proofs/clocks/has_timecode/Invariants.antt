use Rattle.mxf_views.proofs.Common.{◌≡◌, drop, list_any}
use Rattle.mxf_clocks.specs.ClockTracks.{found_tracks, is_of_kind, is_timecode}
use Rattle.mxf_clocks.proofs.clocks.has_timecode.Given as goal

abbrev pub invariant-loop-track : goal.invariant-loop-track
invariant-loop-track l =
    list_any (is_of_kind is_timecode) (found_tracks (drop l.track-index l.tracks))
    ≡ list_any (is_of_kind is_timecode) (found_tracks l.tracks)
