use Rattle.mxf_verify.proofs.UnitLaws.{one_list_of_runs, one_span}
use Rattle.mxf_verify.proofs.verified_units.one_account_of_units.Goals as goal

pub returns : goal.returns
returns c = record { runs = one_list_of_runs; spans = λ places others n a b same. one_span places others same n a b }
