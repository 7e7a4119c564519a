use Rattle.mxf_verify.proofs.AnotherLaws.{another-by_test}
use Rattle.mxf_verify.proofs.renewal.other_recordings_by_definition.Goals as goal

pub returns : goal.returns
returns c = another-by_test
