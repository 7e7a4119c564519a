use Rattle.mxf_views.proofs.Common.{rules, IsNonDecreasingBy-from_sort_by_key}
use Rattle.mxf_doubts.specs.declared.sound.Zone.{Zone}
use Rattle.mxf_doubts.proofs.sound.by_start.Goals as goal

pub returns-clause-rising : goal.returns-clause-rising
returns-clause-rising c =
    IsNonDecreasingBy-from_sort_by_key (λ (z : Zone). z.start) _ c.sort_unstable_by_key.ensures.sorted
    (λ a r q k. search rules)
