use Rattle.mxf_units.proofs.EntryLaws.{says-entry, says-nothing}
use Rattle.mxf_units.proofs.units.entries_by_definition.Goals as goal

pub returns : goal.returns
returns c = record { some = says-entry; none = says-nothing }
