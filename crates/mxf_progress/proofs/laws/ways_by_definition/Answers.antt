use Rattle.mxf_progress.proofs.WayLaws.{goes_on_says, no_fill, on_way, way_end_says}
use Rattle.mxf_progress.proofs.laws.ways_by_definition.Goals as goal

pub returns : goal.returns
returns c = record {
  ends = λ notes p x content. way_end_says notes content p x;
  goes_on = λ notes p x content. goes_on_says notes content p x;
  bytes = λ notes p x y content. on_way notes p x y content;
  no_fill = λ notes p x n. no_fill notes p x n;
}
