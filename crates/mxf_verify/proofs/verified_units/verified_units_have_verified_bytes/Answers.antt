use Rattle.mxf_verify.proofs.VerifiedUnitLaws.{verified_bytes}
use Rattle.mxf_verify.proofs.verified_units.verified_units_have_verified_bytes.Goals as goal

pub returns : goal.returns
returns c = λ reference sources v units from to told r unit is are. verified_bytes reference sources v units from to told is are r unit
