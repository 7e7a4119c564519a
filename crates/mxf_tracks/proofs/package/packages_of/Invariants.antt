use Rattle.mxf_views.proofs.Common.{◌≡◌, [], drop}
use Rattle.mxf_catalogue.specs.Disputes.{clear_notes}
use Rattle.mxf_views.specs.Copies.{sets_of}
use Rattle.mxf_tracks.specs.Walk.{packages_from}
use Rattle.mxf_tracks.proofs.WalkLaws.{behind}
use Rattle.mxf_tracks.proofs.package.packages_of.Given as goal

abbrev pub invariant-loop-reference : goal.invariant-loop-reference
invariant-loop-reference l =
    let clear = clear_notes l.copy.notes in
    let sets = sets_of l.copy.notes l.copy.partition in
    behind l.items.items (packages_from clear sets l.reached (drop l.reference-index l.references))
    ≡ packages_from clear sets [] l.references
