use Rattle.mxf_views.proofs.Common.{◌∙◌, Some, None}
use Rattle.mxf_views.proofs.PartitionSearch.{there_by_note}
use Rattle.mxf_views.proofs.partition.partition_there.Goals as goal

pub returns-in_err-clear_at : goal.returns-in_err-clear_at
returns-in_err-clear_at c = c.from_residual.ensures
    ∙ there_by_note c.args.catalogue.now c.args.offset None c.in_err-clear_at.ensures.first

pub returns : goal.returns
returns c = c.partition_at.ensures
    ∙ there_by_note c.args.catalogue.now c.args.offset (Some c.in_ok-clear_at.field-0.now)
    c.in_ok-clear_at.ensures.first
