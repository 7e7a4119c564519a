use Rattle.mxf_views.proofs.Common.{rules, filter_same}
use Rattle.mxf_partial.proofs.plan.metadata.retain_metadata.Goals as goal

pub returns : goal.returns
returns c = filter_same _ _ _ (λ x b f k. search rules) _ _ c.retain.ensures.filtered
