use Rattle.mxf_sets.proofs.PrimerLaws.{one_primer_read}
use Rattle.mxf_sets.proofs.pack.primer.one_primer_reading.Goals as goal

pub returns : goal.returns
returns c = one_primer_read
