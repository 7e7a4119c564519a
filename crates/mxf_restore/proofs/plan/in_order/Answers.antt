use Rattle.mxf_views.proofs.Common.{◌∙◌, [], sym, union}
use Rattle.mxf_restore.proofs.PlanLaws.{one_order, orders}
use Rattle.mxf_restore.proofs.plan.in_order.Goals as goal

pub returns : goal.returns
returns c = c.sort_once.ensures.members ∙ λ i. union (λ x y. orders x y i) [] c.args.orders.items

pub sort_once-requires : goal.sort_once-requires
sort_once-requires c = λ a b e. one_order a b (sym (orders a b) ∙ e)
