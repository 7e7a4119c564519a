use Rattle.mxf_views.proofs.Common.{◌∙◌, ap, list_all, partitions_of}
use Rattle.mxf_hints.specs.Shifts.{is_shifted}
use Rattle.mxf_hints.proofs.ShiftLaws.{all_in_numbers}
use Rattle.mxf_hints.proofs.shift.are_shifted.Goals as goal

pub loop-partition-init : goal.loop-partition-init
loop-partition-init c =
    ap (list_all (is_shifted c.args.shift)) c.partitions_in_numbers-partition-items.ensures.partitions
    ∙ all_in_numbers c.args.shift (partitions_of c.args.views.now)
