use Rattle.mxf_clocks.proofs.CountLaws.{no_more}
use Rattle.mxf_clocks.proofs.clocks.no_more_runs_than_clips_and_files.Goals as goal

pub returns : goal.returns
returns c = no_more
