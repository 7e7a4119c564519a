use Rattle.mxf_units.proofs.SidLaws.{named-of, named-rise}
use Rattle.mxf_units.proofs.indexes.named_index_sids_by_definition.Goals as goal

pub returns : goal.returns
returns c = record { members = named-of; rising = named-rise }
