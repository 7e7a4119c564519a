use Rattle.mxf_verify.proofs.RenewalLaws.{AreReduced-renewed, In-dropped, In-kept, In-renewed, IsContent-dropped}
use Rattle.mxf_verify.proofs.RenewalLaws.{IsContent-renewed}
use Rattle.mxf_verify.proofs.renewal.renewals_by_definition.Goals as goal

pub returns : goal.returns
returns c = record {
  dropped = In-dropped;
  kept = In-kept;
  members = In-renewed;
  dropped_rises = IsContent-dropped;
  renewed_rises = IsContent-renewed;
  reduced = AreReduced-renewed;
}
