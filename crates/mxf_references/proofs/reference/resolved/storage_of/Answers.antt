use Rattle.mxf_views.proofs.Common.{◌≡◌, ◌∙◌, ap, sym, same_Some}
use Rattle.mxf_references.specs.Resolved.{storage_among, storage_in}
use Rattle.mxf_klv.proofs.Tests.{none_some}
use Rattle.mxf_references.proofs.OnlyFound.{only_there}
use Rattle.mxf_references.proofs.reference.resolved.storage_of.Goals as goal

pub returns-in_err-note_at-in-One : goal.returns-in_err-note_at-in-One
returns-in_err-note_at-in-One c =
    let sets = c.args.sets.now in
    let only = only_there sets.notes sets.partition c.args.uid.now c.in-One.offset c.in-One.ensures in
    absurd (none_some _ only.note (sym c.in_err-note_at-in-One.ensures) only.there)

pub returns-in_ok-note_at-in-One : goal.returns-in_ok-note_at-in-One
returns-in_ok-note_at-in-One c =
    let sets = c.args.sets.now in
    let only = only_there sets.notes sets.partition c.args.uid.now c.in-One.offset c.in-One.ensures in
    let same : c.in_ok-note_at-in-One.field-0.now ≡ only.note = same_Some _ _ (c.in_ok-note_at-in-One.ensures
    ∙ only.there) in
    c.storage_in.ensures ∙ ap storage_in same ∙ ap storage_among (sym only.only)
