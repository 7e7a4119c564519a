use Rattle.mxf_sets.proofs.BatchTests.{tested_batch, batch_tested}
use Rattle.mxf_sets.proofs.record.batch_fields_are_batches.Goals as goal

pub returns : goal.returns
returns c size bytes h = (tested_batch size bytes h, batch_tested size bytes)
