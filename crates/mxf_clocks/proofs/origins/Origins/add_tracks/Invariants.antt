-- What is kept of the tracks so far, and the tracks that are to come.
use Rattle.mxf_views.proofs.Common.{◌≡◌, ℕ, List, bytes_eq, drop}
use Rattle.mxf_clocks.specs.ClockTracks.{found_tracks}
use Rattle.mxf_clocks.proofs.FileTableLaws.{kept_at, with_tracks}
use Rattle.mxf_clocks.proofs.origins.Origins.add_tracks.Given as goal

abbrev pub invariant-loop-track : goal.invariant-loop-track
invariant-loop-track l = (other : List ℕ) (id : ℕ)
    → with_tracks (bytes_eq l.uid other) (kept_at l.self.by_track other id) id
    (found_tracks (drop l.track-index l.tracks))
    ≡ with_tracks (bytes_eq l.uid other) (kept_at l.fn.self.by_track other id) id (found_tracks l.tracks)
