use Rattle.mxf_restore.proofs.HoleLaws.{holes_are}
use Rattle.mxf_restore.proofs.section.holes_by_definition.Goals as goal

pub returns : goal.returns
returns c notes h content = holes_are notes content h
