use Rattle.mxf_views.proofs.Common.{◌∙◌, ◌<◌, ap, arith, get_or, length, set, next_changed}
use Rattle.mxf_hand.specs.Settling.{settled}
use Rattle.mxf_hand.proofs.settling.settle_each.Goals as goal

pub loop-i-preserved : goal.loop-i-preserved
loop-i-preserved c =
    let f = settled c.args.catalogue.now c.args.extents.now in
    let i = c.loop-i.i in
    let old = c.args.reports.now.items in
    let d = c.index.result.now in
    let within : i < length old = omega (arith, c.args.reports.now.ok.0, c.loop-i-test.true, c.len-i-end.ensures) in
    ap (λ x. set c.loop-i.reports.items i x) (c.settled.ensures ∙ ap f c.index.ensures)
    ∙ ap (λ l. set l i (f (get_or l i d))) c.loop-i.invariant ∙ next_changed f old d i within
