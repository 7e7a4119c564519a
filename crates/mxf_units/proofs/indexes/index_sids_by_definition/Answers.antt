use Rattle.mxf_units.proofs.SidLaws.{sids-of, sids-rise}
use Rattle.mxf_units.proofs.indexes.index_sids_by_definition.Goals as goal

pub returns : goal.returns
returns c = record { members = sids-of; rising = sids-rise }
