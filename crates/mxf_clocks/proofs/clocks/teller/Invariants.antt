use Rattle.mxf_views.proofs.Common.{◌≡◌, drop, list_any}
use Rattle.mxf_clocks.specs.ClockTracks.{found_packages}
use Rattle.mxf_clocks.specs.Clocks.{tells_time}
use Rattle.mxf_clocks.proofs.clocks.teller.Given as goal

abbrev pub invariant-loop-package : goal.invariant-loop-package
invariant-loop-package l =
    list_any tells_time (found_packages (drop l.package-index l.packages)) ≡ list_any tells_time (found_packages l.packages)
