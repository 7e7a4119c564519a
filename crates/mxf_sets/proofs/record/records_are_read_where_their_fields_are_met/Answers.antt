use Rattle.mxf_sets.proofs.RecordLaws.{meets_read, read_meets}
use Rattle.mxf_sets.proofs.record.records_are_read_where_their_fields_are_met.Goals as goal

pub returns : goal.returns
returns c = λ fields bytes items h. (λ r. read_meets fields bytes items h r, λ m. meets_read fields bytes items m.0 m.1)
