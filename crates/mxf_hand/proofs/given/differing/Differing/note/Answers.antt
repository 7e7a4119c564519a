use Rattle.mxf_hand.proofs.DifferingLaws.{differences_anyway}
use Rattle.mxf_hand.proofs.given.differing.Differing.note.Goals as goal

pub invariant_of-self : goal.invariant_of-self
invariant_of-self c =
    differences_anyway c.add_near.result c.self.inside.noted.items c.add_near.new.noted.items c.args.next
    c.add_near.ensures.added c.add_near.ensures.err c.self.invariant c.requires
