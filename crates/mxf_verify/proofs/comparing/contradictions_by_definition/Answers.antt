use Rattle.mxf_verify.proofs.ComparingLaws.{contradicts-by_test, head-by_test, share-by_test}
use Rattle.mxf_verify.proofs.comparing.contradictions_by_definition.Goals as goal

pub returns : goal.returns
returns c = record { share = share-by_test; head = head-by_test; contradicts = contradicts-by_test }
