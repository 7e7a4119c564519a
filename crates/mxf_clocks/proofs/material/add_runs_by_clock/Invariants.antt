-- The runs so far, and those of the tracks that are to come.
use Rattle.mxf_views.proofs.Common.{◌≡◌, ◌++◌, drop, false, nat_cmp}
use Rattle.std.specs.BTreeSet.{contains}
use Rattle.std.specs.Cmp.Lexicographic.{slice_cmp}
use Rattle.mxf_clocks.specs.ClockTracks.{found_tracks}
use Rattle.mxf_clocks.specs.Lookups.{index_kept, origin_kept, timed_in}
use Rattle.mxf_clocks.proofs.FirstTracks.{runs_one_by_one}
use Rattle.mxf_clocks.proofs.material.add_runs_by_clock.Given as goal

abbrev pub invariant-loop-track : goal.invariant-loop-track
invariant-loop-track l =
    let runs = runs_one_by_one (timed_in l.tables.rates.by_index) (index_kept l.tables.indexes.by_package)
    (origin_kept l.tables.origins.by_track) l.clock in
    l.runs.items ++ runs (contains (slice_cmp nat_cmp) l.shown) (found_tracks (drop l.track-index l.tracks))
    ≡ l.fn.runs.items ++ runs (λ uid. false) (found_tracks l.tracks)
