use Rattle.mxf_find.proofs.ByDefinition.{by_length, by_value}
use Rattle.mxf_find.proofs.laws.telling_by_definition.Goals as goal

pub returns : goal.returns
returns c = record { by_value = by_value; by_length = by_length }
