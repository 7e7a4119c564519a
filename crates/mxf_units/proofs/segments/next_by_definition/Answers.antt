use Rattle.mxf_units.proofs.NextLaws.{next-is, of_index}
use Rattle.mxf_units.proofs.segments.next_by_definition.Goals as goal

pub returns : goal.returns
returns c = record { next = next-is; index = of_index }
