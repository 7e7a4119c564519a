use Rattle.mxf_views.proofs.Common.{◌++◌, drop, flat_map, SameMembers}
use Rattle.mxf_clocks.specs.Clocks.{runs_by_package}
use Rattle.mxf_clocks.specs.ClockTracks.{found_packages}
use Rattle.mxf_clocks.specs.TracksFor.{is_timed}
use Rattle.mxf_clocks.proofs.material.runs_by_material.Given as goal

abbrev pub invariant-loop-package : goal.invariant-loop-package
invariant-loop-package l =
    let runs = runs_by_package (is_timed l.segments) l.packages in
    SameMembers (l.runs.items ++ flat_map runs (found_packages (drop l.package-index l.packages)))
    (flat_map runs (found_packages l.packages))
