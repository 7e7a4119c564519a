use Rattle.mxf_verify.proofs.FixityLaws
use Rattle.mxf_verify.proofs.fixity.one_fixity.Goals as goal

pub returns : goal.returns
returns c = record { some = FixityLaws.some_fixity; one = FixityLaws.one_fixity }
