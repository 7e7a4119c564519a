-- What is kept of the packages so far, and the packages that are to come.
use Rattle.mxf_views.proofs.Common.{◌≡◌, ℕ, List, drop}
use Rattle.mxf_clocks.specs.ClockTracks.{found_packages}
use Rattle.mxf_clocks.specs.Lookups.{first_origin, tracks_with}
use Rattle.mxf_clocks.proofs.FileTableLaws.{kept_at, origin_yet}
use Rattle.mxf_clocks.proofs.origins.Origins.of.Given as goal

abbrev pub invariant-loop-package : goal.invariant-loop-package
invariant-loop-package l = (uid : List ℕ) (id : ℕ)
    → origin_yet (kept_at l.origins.by_track uid id) uid id (found_packages (drop l.package-index l.packages))
    ≡ first_origin id (tracks_with uid (found_packages l.packages))
