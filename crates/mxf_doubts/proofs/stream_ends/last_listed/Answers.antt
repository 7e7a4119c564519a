use Rattle.mxf_views.proofs.Common.{arith}
use Rattle.mxf_doubts.proofs.EndLaws.{placed_step, skipped_step}
use Rattle.mxf_doubts.proofs.stream_ends.last_listed.Goals.{in-Some, in_default}
use Rattle.mxf_doubts.proofs.stream_ends.last_listed.Goals as goal

pub loop-unit-preserved : goal.loop-unit-preserved
loop-unit-preserved c = grind (arith, placed_step, skipped_step, in-Some, in_default)
