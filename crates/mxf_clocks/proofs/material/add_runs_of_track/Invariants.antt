use Rattle.mxf_views.proofs.Common.{◌≡◌, ◌++◌, drop, filter_map, nat_cmp}
use Rattle.std.specs.BTreeSet.{contains}
use Rattle.std.specs.Cmp.Lexicographic.{slice_cmp}
use Rattle.mxf_clocks.specs.ClockTracks.{components_of}
use Rattle.mxf_clocks.specs.Lookups.{index_kept, new_run, origin_kept, timed_in}
use Rattle.mxf_clocks.proofs.material.add_runs_of_track.Given as goal

abbrev pub invariant-loop-component : goal.invariant-loop-component
invariant-loop-component l =
    let run = new_run (timed_in l.tables.rates.by_index) (index_kept l.tables.indexes.by_package)
    (origin_kept l.tables.origins.by_track) (contains (slice_cmp nat_cmp) l.shown) l.clock l.track in
    l.runs.items ++ filter_map run (drop l.component-index l.component-items)
    ≡ l.fn.runs.items ++ filter_map run (components_of l.track)
