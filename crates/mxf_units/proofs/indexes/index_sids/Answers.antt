use Rattle.mxf_views.proofs.Common.{◌∙◌, [], ap, nat_cmp, union}
use Rattle.mxf_units.specs.Indexes.{index_sids_of}
use Rattle.mxf_units.proofs.indexes.index_sids.Goals as goal

pub returns : goal.returns
unfolding index_sids_of
returns c = c.sort_once.ensures.members ∙ ap (union nat_cmp []) c.in_ok-index_sids.ensures
