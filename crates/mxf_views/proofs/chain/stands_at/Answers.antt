use Rattle.mxf_views.proofs.Common.{◌≡◌, ◌∙◌, None, Some, is_some, refl, option_copied}
use Rattle.mxf_views.proofs.PartitionSearch.{stands_if_found}
use Rattle.mxf_views.proofs.chain.stands_at.Goals as goal

pub returns : goal.returns
returns c = c.is_some.ensures
    ∙ elim c.find_by_key.result as (λ r. is_some r ≡ is_some (option_copied r)) [ None ↦ refl | Some p ↦ refl ]
    ∙ stands_if_found c.args.partitions.now c.args.offset (option_copied c.find_by_key.result) c.find_by_key.ensures
