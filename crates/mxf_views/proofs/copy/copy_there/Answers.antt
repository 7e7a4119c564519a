use Rattle.mxf_views.proofs.Common.{◌∙◌, Some, ap, sym, clear_notes, copy_of, has_metadata}
use Rattle.mxf_views.proofs.CopyUpdates.{copy_in_numbers}
use Rattle.mxf_views.proofs.PartitionSearch.{copy_found, no_metadata, no_partition}
use Rattle.mxf_views.proofs.copy.copy_there.Goals as goal

pub returns-in_err-partition_there : goal.returns-in_err-partition_there
returns-in_err-partition_there c = c.from_residual.ensures
    ∙ sym (no_partition c.args.catalogue.now c.args.partition (sym c.in_err-partition_there.ensures))

pub returns-then-not-has_metadata : goal.returns-then-not-has_metadata
returns-then-not-has_metadata c = sym (no_metadata c.args.catalogue.now c.args.partition c.in_ok-partition_there.field-0
    (sym c.in_ok-partition_there.ensures)
    (ap has_metadata (sym c.in_numbers-partition.ensures) ∙ sym c.if-not-has_metadata.ensures))

pub returns : goal.returns
returns c =
    let clear = clear_notes c.args.catalogue.now in
    ap Some (c.copy_of.ensures ∙ ap (copy_of clear) c.in_numbers-partition.ensures
    ∙ copy_in_numbers clear c.in_ok-partition_there.field-0)
    ∙ sym (copy_found c.args.catalogue.now c.args.partition c.in_ok-partition_there.field-0
    (sym c.in_ok-partition_there.ensures)
    (ap has_metadata (sym c.in_numbers-partition.ensures) ∙ sym c.if-not-has_metadata.ensures))
