use Rattle.mxf_sets.proofs.PackComputing.{primer_iff}
use Rattle.mxf_sets.proofs.pack.primer.primers_are_read_as_batches.Goals as goal

pub returns : goal.returns
returns c = primer_iff
