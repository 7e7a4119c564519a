use Rattle.mxf_views.proofs.Common.{◌∙◌, ◌<◌, List, ap, get_or, length, subst, None, false, renewed, set, next_changed}
use Rattle.mxf_klv.specs.declared.kinds.Status.TheVariants.{OpenIncomplete}
use Rattle.mxf_views.specs.declared.copy.CopyInfo.{CopyInfo}
use Rattle.mxf_views.proofs.kept.copies.renew.Goals as goal

pub loop-copy-preserved : goal.loop-copy-preserved
loop-copy-preserved c =
    let a = c.args.arrival.now in
    let f = renewed c.args.catalogue.now a.start a.end a.can_bring_start in
    let i = c.loop-copy.copy-index in
    let old = c.args.copies.now.items in
    let d : CopyInfo = record {
      partition = 0;
      start = None;
      bytes = 0;
      covered = 0;
      finished = false;
      prefaces = 0;
      status = OpenIncomplete;
    } in
    let within : i < length old = subst (λ (l : List CopyInfo). i < length l) c.deref_mut-copy-items.ensures.value
    c.loop-copy-test.true in
    ap (set c.loop-copy.copy-items i) c.renewed.ensures
    ∙ ap (λ (l : List CopyInfo). set l i (f (get_or l i d))) c.loop-copy.invariant ∙ next_changed f old d i within
