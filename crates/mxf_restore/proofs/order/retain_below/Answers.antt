use Rattle.mxf_views.proofs.Common.{rules, filter_same}
use Rattle.mxf_restore.proofs.order.retain_below.Goals as goal

pub returns : goal.returns
returns c = filter_same _ _ _ (λ x b f k. search rules) _ _ c.retain.ensures.filtered
