use Rattle.std.proofs.Common.{◌∙◌}
use Rattle.mxf_sets.proofs.BatchTests.{reads_test}
use Rattle.mxf_sets.proofs.batch.is_batch.Goals as goal

pub returns : goal.returns
returns c = c.is_ok.ensures.value ∙ reads_test c.args.size c.args.bytes.now c.read.result c.read.ensures
