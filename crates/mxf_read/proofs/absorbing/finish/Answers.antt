use Rattle.mxf_skim.specs.declared.scan.Scan.TheVariants.{Full}
use Rattle.mxf_read.proofs.Reports.{finished, scanned_added, unfinished}
use Rattle.mxf_read.proofs.absorbing.finish.Goals as goal

pub returns-in-Ok-clause-read : goal.returns-in-Ok-clause-read
returns-in-Ok-clause-read c = λ o m fed.
    finished o m c.args.piece.now c.add_head.new.self c.report-report.result fed (c.report-report.ensures Full o m fed)
    (c.in-Ok.ensures.added Full o m fed)

pub returns-in-Ok-clause-scanned : goal.returns-in-Ok-clause-scanned
returns-in-Ok-clause-scanned c = λ scan o m fed. record {
  notes = scanned_added scan o m c.args.piece.now c.add_head.new.self fed.knows (c.in-Ok.ensures.added scan o m fed);
  report = c.report-report.ensures scan o m fed;
}

pub returns-in-Err-clause-read : goal.returns-in-Err-clause-read
returns-in-Err-clause-read c = λ o m fed.
    unfinished o m c.args.piece.now c.add_head.new.self c.report-report.result c.at.result fed
    (c.report-report.ensures Full o m fed) c.in-Err.ensures.err c.at.ensures
