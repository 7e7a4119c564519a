use Rattle.mxf_views.proofs.Common.{◌∙◌, ap, sym, true, false}
use Rattle.mxf_references.specs.Targets.{fits}
use Rattle.mxf_references.specs.declared.reference.target.Target.TheVariants.{Unreadable, Found}
use Rattle.mxf_references.proofs.UnreadableLaws.{judged}
use Rattle.mxf_references.proofs.reference.target.target_at.Goals as goal

pub returns-then-is_unreadable : goal.returns-then-is_unreadable
returns-then-is_unreadable c =
    let fit = ap (fits c.args.wanted) (sym c.kind.ensures) ∙ sym c.if-not-fits.ensures in
    ap Unreadable c.offset-offset.ensures.offset
    ∙ sym (judged c.args.wanted c.args.set.now fit true (sym c.if-is_unreadable.ensures))

pub returns-else-is_unreadable : goal.returns-else-is_unreadable
returns-else-is_unreadable c =
    let fit = ap (fits c.args.wanted) (sym c.kind.ensures) ∙ sym c.if-not-fits.ensures in
    ap Found c.offset-offset.ensures.offset
    ∙ sym (judged c.args.wanted c.args.set.now fit false (sym c.if-is_unreadable.ensures))
