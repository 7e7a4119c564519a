use Rattle.std.proofs.Common.{refl}
use Rattle.mxf_verify.proofs.RenewalLaws.{joined-renewed, none-again, renewed-again, renewed-by_nothing}
use Rattle.mxf_verify.proofs.renewal.renewals_join_what_agrees.Goals as goal

pub returns : goal.returns
returns c = record {
  joined = joined-renewed;
  again = renewed-again;
  none_again = none-again;
  into_nothing = λ new. refl;
  by_nothing = renewed-by_nothing;
}
