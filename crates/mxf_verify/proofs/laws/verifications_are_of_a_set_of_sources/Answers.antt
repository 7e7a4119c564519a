use Rattle.mxf_verify.proofs.VerificationLaws.{more_verified, says_same}
use Rattle.mxf_verify.proofs.laws.verifications_are_of_a_set_of_sources.Goals as goal

pub returns : goal.returns
returns c = record { same = says_same; more = more_verified }
