use Rattle.mxf_views.proofs.Common.{◌∙◌, [], ap, nat_cmp, union}
use Rattle.mxf_hints.proofs.index.clocked.Goals as goal

pub returns : goal.returns
returns c = c.sort_once.ensures.members ∙ ap (union nat_cmp []) c.in_ok-indexes.ensures
