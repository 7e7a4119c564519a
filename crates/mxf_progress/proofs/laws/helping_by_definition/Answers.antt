use Rattle.mxf_progress.proofs.HelpLaws.{helping_says}
use Rattle.mxf_progress.proofs.HelpingUnits.{helping_units}
use Rattle.mxf_progress.proofs.laws.helping_by_definition.Goals as goal

pub returns : goal.returns
returns c = record {
  sections = λ described at notes p o content hand. helping_says described at notes content hand p o;
  units = helping_units;
}
