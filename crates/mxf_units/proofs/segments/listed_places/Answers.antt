use Rattle.mxf_views.proofs.Common.{List, subst, sym, AllByRecursion}
use Rattle.mxf_views.specs.declared.index.place.StreamPlace.{StreamPlace}
use Rattle.mxf_units.specs.Streams.{IsSmall}
use Rattle.mxf_units.proofs.LeastLaws.{small-in_order}
use Rattle.mxf_units.proofs.segments.listed_places.Goals as goal

pub returns-clause-small : goal.returns-clause-small
returns-clause-small c = subst (λ (xs : List StreamPlace). AllByRecursion IsSmall xs) (sym c.in_order.ensures)
    (small-in_order _ c.in_ok-listed_in.ensures.small)
