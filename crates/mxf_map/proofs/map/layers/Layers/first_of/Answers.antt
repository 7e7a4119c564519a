use Rattle.mxf_map.proofs.MarkLaws.{first_found, none_found, none_more}
use Rattle.mxf_map.proofs.map.layers.Layers.first_of.Goals as goal

pub loop-mark-preserved : goal.loop-mark-preserved
loop-mark-preserved c =
    none_more c.args.self.now c.args.from c.args.to c.loop-mark.mark-index _ c.args.marks.now c.requires
    c.loop-mark-test.true c.loop-mark.invariant
    (λ says. let t = c.says.ensures.1 says in let f = c.if-says.false in cc (t, f))

pub returns-then-says : goal.returns-then-says
returns-then-says c =
    first_found c.args.self.now c.args.from c.args.to c.loop-mark.mark-index _ c.args.marks.now c.requires
    c.loop-mark-test.true c.loop-mark.invariant (c.says.ensures.0 c.if-says.true)

pub returns : goal.returns
returns c = none_found c.args.self.now c.args.from c.args.to c.loop-mark.mark-index c.args.marks.now c.requires
    c.loop-mark-test.false c.loop-mark.invariant
