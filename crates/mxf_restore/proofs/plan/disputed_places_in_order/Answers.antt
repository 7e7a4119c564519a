use Rattle.mxf_views.proofs.Common.{◌∙◌, [], union}
use Rattle.mxf_restore.proofs.PlanLaws.{disputed_places}
use Rattle.mxf_restore.proofs.plan.disputed_places_in_order.Goals as goal

pub returns : goal.returns
returns c = c.sort_once.ensures.members ∙ λ i. union (λ x y. disputed_places x y i) [] c.args.disputed_places.items
