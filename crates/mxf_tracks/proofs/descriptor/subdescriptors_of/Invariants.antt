use Rattle.mxf_views.proofs.Common.{◌≡◌}
use Rattle.mxf_views.specs.Copies.{sets_of}
use Rattle.mxf_tracks.specs.Walk.{subdescriptors_from}
use Rattle.mxf_tracks.proofs.WalkLaws.{behind}
use Rattle.mxf_tracks.proofs.descriptor.subdescriptors_of.Given as goal

abbrev pub invariant-loop-uid : goal.invariant-loop-uid
invariant-loop-uid l =
    let sets = sets_of l.copy.notes l.copy.partition in
    behind l.items.items (subdescriptors_from sets l.reached l.uid-iterator)
    ≡ subdescriptors_from sets l.initial.reached l.fn.references
