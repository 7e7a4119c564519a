use Rattle.mxf_views.proofs.Common.{arith}
use Rattle.mxf_views.proofs.AboveLaws.{meet_one}
use Rattle.mxf_views.proofs.kept.above.boundary_below.Goals as goal

pub returns-then-end-offset : goal.returns-then-end-offset
returns-then-end-offset c =
    meet_one c.end-end.result c.args.catalogue.now c.args.note.now c.laws.ensures.catalogue c.laws.ensures.reduced
    c.offset.ensures.note c.end-end.ensures (omega (arith, c.if-end-offset.true, c.offset.ensures.offset))
