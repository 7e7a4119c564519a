use Rattle.mxf_verify.proofs.RenewalLaws.{new-had, stayed-free}
use Rattle.mxf_verify.proofs.renewal.renewals_have_what_was_read_anew.Goals as goal

pub returns : goal.returns
returns c = record { had = new-had; free = stayed-free }
