use Rattle.mxf_progress.proofs.RoundLaws.{begins, ends, falls, gains, keeps}
use Rattle.mxf_progress.proofs.laws.restores_end.Goals as goal

pub returns : goal.returns
returns c = record { begins = begins; keeps = keeps; gains = gains; falls = falls; ends = ends }
