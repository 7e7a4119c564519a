use Rattle.mxf_views.proofs.Common.{rules, filter_same}
use Rattle.mxf_views.proofs.kept.keyed.leave.Goals as goal

pub returns-clause-items : goal.returns-clause-items
returns-clause-items g c = filter_same _ _ _ (λ x b f' k. search rules) _ _ c.retain.ensures.filtered
