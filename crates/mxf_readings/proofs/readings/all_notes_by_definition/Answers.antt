use Rattle.mxf_readings.proofs.AllNotesLaws.{all_content, all_located, all_parts, all_reduced, some_source}
use Rattle.mxf_readings.proofs.readings.all_notes_by_definition.Goals as goal

pub returns : goal.returns
returns c = record {
  members = all_located;
  some = some_source;
  content = all_content;
  reduced = all_reduced;
  parts = all_parts;
}
