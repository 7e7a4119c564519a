use Rattle.mxf_views.proofs.Common.{◌≡◌, ◌++◌, drop, filter_map}
use Rattle.mxf_clocks.specs.ClockTracks.{found_packages}
use Rattle.mxf_clocks.specs.Lookups.{index_kept, run_by_index, timed_in}
use Rattle.mxf_clocks.proofs.source.runs_by_sources.Given as goal

abbrev pub invariant-loop-package : goal.invariant-loop-package
invariant-loop-package l =
    let run = run_by_index (timed_in l.tables.rates.by_index) (index_kept l.tables.indexes.by_package) in
    l.runs.items ++ filter_map run (found_packages (drop l.package-index l.packages))
    ≡ filter_map run (found_packages l.packages)
