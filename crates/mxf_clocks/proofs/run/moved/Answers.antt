use Rattle.mxf_clocks.proofs.MomentLaws.{moved-is}
use Rattle.mxf_clocks.proofs.run.moved.Goals as goal

pub returns-clause-moved : goal.returns-clause-moved
returns-clause-moved c =
    moved-is c.args.labels c.args.step c.args.at c.args.units c.from-parts.result c.from-numerator.result
    c.from-labels.result c.from.result c.from-2.result c.from-parts.ensures c.from-numerator.ensures
    c.from-labels.ensures c.from.ensures c.from-2.ensures c.requires.parts
