use Rattle.std.proofs.Common.{arith}
use Rattle.mxf_catalogue.specs.Disputes.{whole_notes}
use Rattle.mxf_klv.proofs.Lists.{length-filter_le}
use Rattle.mxf_catalogue.proofs.catalogue.clear.ClearNotes.of.Goals as goal

pub returns-clause-bound : goal.returns-clause-bound
returns-clause-bound c = omega (arith, whole_notes c.args.notes.now, length-filter_le (λ n. n.whole) c.args.notes.now)
