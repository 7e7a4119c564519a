use Rattle.mxf_views.proofs.Common.{◌∙◌, [], subst, sym, IsRising, union}
use Rattle.mxf_restore.proofs.PlanLaws.{one_order, orders}
use Rattle.mxf_partial.proofs.plan.in_order.Goals as goal

pub returns-clause-members : goal.returns-clause-members
returns-clause-members c = c.sort_once.ensures.members ∙ λ i. union (λ x y. orders x y i) [] c.args.orders.items

pub returns-clause-rising : goal.returns-clause-rising
returns-clause-rising c = subst (λ cmp. IsRising cmp c.sort_once.new.items.items)
    (λ i x y. orders x y i) c.sort_once.ensures.rising

pub sort_once-requires : goal.sort_once-requires
sort_once-requires c = λ a b e. one_order a b (sym (orders a b) ∙ e)
