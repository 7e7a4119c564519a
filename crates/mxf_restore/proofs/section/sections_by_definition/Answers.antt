use Rattle.mxf_restore.proofs.SectionCover.{are_sections}
use Rattle.mxf_restore.proofs.section.sections_by_definition.Goals as goal

pub returns : goal.returns
returns c = are_sections
