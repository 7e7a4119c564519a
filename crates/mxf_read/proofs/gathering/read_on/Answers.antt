use Rattle.mxf_views.proofs.Common.{◌∙◌, IfSome_then}
use Rattle.mxf_skim.specs.declared.scan.Scan.TheVariants.{Full}
use Rattle.mxf_read.proofs.SkimPieces.{scanned_stream}
use Rattle.mxf_read.proofs.gathering.read_on.Goals as goal

pub returns-clause-report : goal.returns-clause-report
returns-clause-report g c = λ o m fed.
    let (taken, takes, feeds, ends) = c.in_ok-read_through.ensures in
    let all_fed = feeds Full o m fed in
    IfSome_then (g.R.Read.remaining c.args.from.now)
    (scanned_stream Full (g.R.Read.remaining c.args.from.now) (g.R.Read.remaining c.read_through.new.from) o
    c.args.limit m taken c.finish.new.piece.notes c.in_ok-report.report c.read_through.new.piece all_fed takes
    ends (c.in_ok-report.ensures.scanned Full o _ all_fed)) (λ all is. is.report)

pub returns-clause-notes : goal.returns-clause-notes
returns-clause-notes g c = λ o m fed.
    let (taken, takes, feeds, ends) = c.in_ok-read_through.ensures in
    let all_fed = feeds Full o m fed in
    IfSome_then (g.R.Read.remaining c.args.from.now)
    (scanned_stream Full (g.R.Read.remaining c.args.from.now) (g.R.Read.remaining c.read_through.new.from) o
    c.args.limit m taken c.finish.new.piece.notes c.in_ok-report.report c.read_through.new.piece all_fed takes
    ends (c.in_ok-report.ensures.scanned Full o _ all_fed)) (λ all is. c.into_notes.ensures ∙ is.notes)
