use Rattle.mxf_places.proofs.EndLaws.{end_says, in_file_says, unknown_says}
use Rattle.mxf_places.proofs.HeldLaws.{is_disputed_at-says, is_held-says}
use Rattle.mxf_places.proofs.held.held_by_definition.Goals as goal

pub returns : goal.returns
returns c = record {
  held = is_held-says;
  disputed = is_disputed_at-says;
  ends = end_says;
  in_file = in_file_says;
  unknown = unknown_says;
}
