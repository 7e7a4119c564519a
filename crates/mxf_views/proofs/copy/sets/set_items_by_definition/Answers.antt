use Rattle.mxf_views.proofs.SetItemLaws.{set_items_iff}
use Rattle.mxf_views.proofs.copy.sets.set_items_by_definition.Goals as goal

pub returns : goal.returns
returns c = set_items_iff
