use Rattle.mxf_views.proofs.Common.{◌≡◌, drop, find}
use Rattle.mxf_clocks.specs.ClockTracks.{found_tracks}
use Rattle.mxf_clocks.specs.Lookups.{timed_in}
use Rattle.mxf_clocks.specs.TracksFor.{is_beside}
use Rattle.mxf_clocks.proofs.track_for.first_beside.Given as goal

abbrev pub invariant-loop-track : goal.invariant-loop-track
invariant-loop-track l =
    find (is_beside (timed_in l.rates.by_index) l.index_sid l.clock_rate) (found_tracks (drop l.track-index l.tracks))
    ≡ find (is_beside (timed_in l.rates.by_index) l.index_sid l.clock_rate) (found_tracks l.tracks)
