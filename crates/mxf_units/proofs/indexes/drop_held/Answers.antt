use Rattle.mxf_views.proofs.Common.{rules, filter_same}
use Rattle.mxf_units.proofs.indexes.drop_held.Goals as goal

pub returns : goal.returns
returns c = filter_same _ _ _ (λ x b f k. search rules) _ _ c.retain.ensures.filtered
