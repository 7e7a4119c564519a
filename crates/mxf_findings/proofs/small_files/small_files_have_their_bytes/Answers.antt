use Rattle.mxf_findings.proofs.Common.{refl}
use Rattle.mxf_findings.proofs.small_files.small_files_have_their_bytes.Goals as goal

pub returns : goal.returns
returns c = record { h = refl; n = refl; r = refl; w = refl; m = refl }
