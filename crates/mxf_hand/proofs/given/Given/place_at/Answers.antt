use Rattle.mxf_views.proofs.Common.{List, sym, subst, IfNone, In, LiesIn}
use Rattle.mxf_hand.specs.Places.{GivenParts, LiesInPlace}
use Rattle.mxf_hand.specs.declared.given.Place.{Place}
use Rattle.mxf_hand.proofs.PlaceLaws.{HaveOffsets, have_offsets, none_given}
use Rattle.mxf_hand.proofs.given.Given.place_at.Goals as goal

pub place_in-requires-clause-some : goal.place_in-requires-clause-some
place_in-requires-clause-some c = subst HaveOffsets (sym c.deref.ensures.value) (have_offsets _ _ _ _ c.self.invariant)

pub returns-clause-none : goal.returns-clause-none
returns-clause-none c =
    subst (λ (g : GivenParts). IfNone c.place_in.result (¬ LiesIn g.given c.args.offset)) c.self.view_is
    (none_given _ _ _ _ c.args.offset c.place_in.result c.self.invariant
    (subst (λ (ps : List Place). IfNone c.place_in.result ((p : Place) → In p ps → ¬ LiesInPlace p c.args.offset))
    c.deref.ensures.value c.place_in.ensures.none))
