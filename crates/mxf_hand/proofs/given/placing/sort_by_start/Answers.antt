use Rattle.mxf_views.proofs.Common.{rules, IsNonDecreasingBy-from_sort_by_key}
use Rattle.mxf_hand.specs.declared.given.Place.{Place}
use Rattle.mxf_hand.proofs.given.placing.sort_by_start.Goals as goal

pub returns-clause-rise : goal.returns-clause-rise
returns-clause-rise c =
    IsNonDecreasingBy-from_sort_by_key (λ (p : Place). p.start) _ c.sort_unstable_by_key.ensures.sorted
    (λ a r q k. search rules)
