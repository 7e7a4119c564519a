use Rattle.mxf_verify.proofs.OpposingLaws.{contradicted-by_test, had-by_test, opposed-by_test}
use Rattle.mxf_verify.proofs.opposing.oppositions_by_definition.Goals as goal

pub returns : goal.returns
returns c = record { had = had-by_test; contradicted = contradicted-by_test; opposed = opposed-by_test }
