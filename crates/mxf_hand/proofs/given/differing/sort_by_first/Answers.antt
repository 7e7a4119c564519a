use Rattle.mxf_views.proofs.Common.{rules, IsNonDecreasingBy-from_sort_by_key}
use Rattle.mxf_hand.specs.declared.given.differing.Difference.{Difference}
use Rattle.mxf_hand.proofs.given.differing.sort_by_first.Goals as goal

pub returns-clause-rise : goal.returns-clause-rise
returns-clause-rise c =
    IsNonDecreasingBy-from_sort_by_key (λ (d : Difference). d.first) _ c.sort_unstable_by_key.ensures.sorted
    (λ a r q k. search rules)
