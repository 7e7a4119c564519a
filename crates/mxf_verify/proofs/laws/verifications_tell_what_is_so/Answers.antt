use Rattle.mxf_verify.proofs.VerificationLaws.{apart_so, differs_so, held_so, verified_so}
use Rattle.mxf_verify.proofs.laws.verifications_tell_what_is_so.Goals as goal

pub returns : goal.returns
returns c = record {
  verified = λ reference sources v at is. verified_so reference sources v is at;
  differs = λ reference sources v d is. differs_so reference sources v is d;
  other = λ reference n offset bytes d s. d.1 s.1;
  held = λ reference sources v at is. held_so reference sources v is at;
  apart = λ reference sources v at is. apart_so reference sources v is at;
}
