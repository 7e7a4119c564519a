use Rattle.mxf_verify.proofs.VerificationLaws.{compared_so}
use Rattle.mxf_verify.proofs.laws.each_compared_note_is_the_same_or_differs.Goals as goal

pub returns : goal.returns
returns c = record { compared = compared_so; apart = λ reference n offset bytes s d. d.1 s.1 }
