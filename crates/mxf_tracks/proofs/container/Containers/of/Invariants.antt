use Rattle.std.proofs.Common.{◌≡◌, ◌++◌, List}
use Rattle.mxf_klv.specs.Parts.{NoteParts}
use Rattle.mxf_tracks.specs.Containers.{AreContainersOf}
use Rattle.mxf_tracks.proofs.container.Containers.of.Given as goal

abbrev pub invariant-loop-set : goal.invariant-loop-set
invariant-loop-set l = (before : List NoteParts) × (before ++ l.set-iterator ≡ l.fn.sets)
    × AreContainersOf before l.containers.by_package
