use Rattle.mxf_units.proofs.EndPlaceLaws.{end_place-is, extent_end-is}
use Rattle.mxf_units.proofs.ExtentLaws.{extent-is, told-is}
use Rattle.mxf_units.proofs.units.extents_by_definition.Goals as goal

pub returns : goal.returns
returns c = record {
  extent = extent-is;
  told = told-is;
  place = λ notes index_sid unit body_sid offset zone. end_place-is notes index_sid unit body_sid offset zone;
  end = λ notes index_sid unit body_sid offset zone. extent_end-is notes index_sid unit body_sid offset zone;
}
