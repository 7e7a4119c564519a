use Rattle.mxf_verify.proofs.VerificationLaws.{one_verification}
use Rattle.mxf_verify.proofs.laws.one_verification.Goals as goal

pub returns : goal.returns
returns c = one_verification
