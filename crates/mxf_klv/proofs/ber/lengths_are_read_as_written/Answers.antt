use Rattle.mxf_klv.proofs.RoundTrips.{length_read_back, length_written_back}
use Rattle.mxf_klv.proofs.ber.lengths_are_read_as_written.Goals as goal

pub returns-clause-read_back : goal.returns-clause-read_back
returns-clause-read_back c = length_read_back

pub returns-clause-written_back : goal.returns-clause-written_back
returns-clause-written_back c = length_written_back
