use Rattle.std.proofs.Common.{subst, sym}
use Rattle.mxf_verify.proofs.TouchedUnitLaws.{touched_are, touched_is}
use Rattle.mxf_verify.specs.Fixities.{AreUnitsOf}
use Rattle.mxf_verify.proofs.unit_places.touched_units_by_definition.Goals as goal

pub returns : goal.returns
returns c = λ places n span. (touched_is places n span, λ e. subst (AreUnitsOf places n) (sym e) (touched_are places n))
