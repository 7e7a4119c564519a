-- What is kept of the packages so far, and the packages that are to come.
use Rattle.mxf_views.proofs.Common.{◌≡◌, ℕ, List, drop, filter, get, nat_cmp}
use Rattle.std.specs.Cmp.Lexicographic.{slice_cmp}
use Rattle.mxf_clocks.specs.ClockTracks.{found_packages}
use Rattle.mxf_clocks.specs.FilePackages.{has_identifier}
use Rattle.mxf_clocks.specs.Lookups.{index_of}
use Rattle.mxf_clocks.proofs.FileTableLaws.{index_yet}
use Rattle.mxf_clocks.proofs.file_package.FileIndexes.of.Given as goal

abbrev pub invariant-loop-package : goal.invariant-loop-package
invariant-loop-package l = (uid : List ℕ) → index_yet (get (slice_cmp nat_cmp) l.indexes.by_package uid)
    (filter (has_identifier uid) (found_packages (drop l.package-index l.packages))) ≡ index_of l.packages uid
