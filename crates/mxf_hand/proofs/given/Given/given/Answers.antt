use Rattle.mxf_hand.proofs.PlacingLaws.{given_by_extents}
use Rattle.mxf_hand.proofs.given.Given.given.Goals as goal

pub returns-clause-offsets : goal.returns-clause-offsets
returns-clause-offsets c = λ x.
    let g = c.self.inside in
    given_by_extents g.extents.items g.places.items g.overlaps.items g.given c.args.self.now c.self.view_is
    c.self.invariant x
