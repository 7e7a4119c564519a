use Rattle.mxf_views.proofs.Common.{◌≡◌, ◌∙◌, ap, sym, same_Some}
use Rattle.mxf_klv.proofs.Tests.{none_some}
use Rattle.mxf_references.proofs.OnlyFound.{only_there}
use Rattle.mxf_tracks.specs.Targets.{set_among, set_at, set_of}
use Rattle.mxf_tracks.proofs.target.set_of.Goals as goal

pub unreachable-requires : goal.unreachable-requires
unreachable-requires c =
    let sets = c.args.copy.now in
    let only = only_there sets.notes sets.partition c.args.uid.now c.in-One.offset c.in-One.ensures in
    none_some _ only.note (sym c.in-None.ensures) only.there

pub returns-in-Some : goal.returns-in-Some
unfolding set_of
returns-in-Some c =
    let sets = c.args.copy.now in
    let wanted = c.args.wanted in
    let reached = c.args.reached.now in
    let only = only_there sets.notes sets.partition c.args.uid.now c.in-One.offset c.in-One.ensures in
    let same : c.in-Some.set.now ≡ only.note = same_Some _ _ (c.in-Some.ensures ∙ only.there) in
    c.set_at.ensures ∙ ap (set_at wanted reached) same ∙ ap (set_among wanted reached) (sym only.only)
