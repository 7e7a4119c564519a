use Rattle.mxf_partial.proofs.WayLaws.{no_part_more, one_part_more}
use Rattle.mxf_partial.proofs.ways.add_ways_of.Goals as goal

pub loop-part-preserved : goal.loop-part-preserved
loop-part-preserved c = λ u are order n.
    one_part_more u.known.notes c.args.holdings.now c.args.places.now c.args.parts.now c.loop-part.part-index _
    c.args.asked.now.items c.loop-part.asked.items c.add_way.new.asked.items n c.loop-part-test.true
    (c.in_ok-add_way.ensures u are order n) (c.loop-part.invariant u are order n)

pub returns : goal.returns
returns c = λ u are order n.
    no_part_more u.known.notes c.args.holdings.now c.args.places.now c.args.parts.now c.loop-part.part-index
    c.args.asked.now.items c.loop-part.asked.items n c.loop-part-test.false (c.loop-part.invariant u are order n)
