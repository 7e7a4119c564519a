use Rattle.mxf_views.proofs.Common.{[], ◌∙◌, IfSome_then}
use Rattle.mxf_skim.specs.declared.scan.Scan.TheVariants.{Skim}
use Rattle.mxf_read.proofs.SkimPieces.{scanned_stream}
use Rattle.mxf_read.proofs.gathering.skimming.skim_piece.Goals as goal

pub returns-clause-report : goal.returns-clause-report
returns-clause-report g c =
    let (taken, takes, feeds, ends) = c.in_ok-skim_all.ensures in
    let fed = feeds Skim c.args.offset c.args.begun.now
    (c.in_ok-feed.ensures.fed Skim c.args.offset [] c.by-piece.ensures) in
    IfSome_then (g.R.Read.remaining c.args.from.now)
    (scanned_stream Skim (g.R.Read.remaining c.args.from.now) (g.R.Read.remaining c.skim_all.new.from) c.args.offset
    c.args.limit c.args.begun.now taken c.finish.new.piece.notes c.in_ok-report.report c.skim_all.new.piece fed takes
    ends (c.in_ok-report.ensures.scanned Skim c.args.offset _ fed)) (λ all is. is.report)

pub returns-clause-notes : goal.returns-clause-notes
returns-clause-notes g c =
    let (taken, takes, feeds, ends) = c.in_ok-skim_all.ensures in
    let fed = feeds Skim c.args.offset c.args.begun.now
    (c.in_ok-feed.ensures.fed Skim c.args.offset [] c.by-piece.ensures) in
    IfSome_then (g.R.Read.remaining c.args.from.now)
    (scanned_stream Skim (g.R.Read.remaining c.args.from.now) (g.R.Read.remaining c.skim_all.new.from) c.args.offset
    c.args.limit c.args.begun.now taken c.finish.new.piece.notes c.in_ok-report.report c.skim_all.new.piece fed takes
    ends (c.in_ok-report.ensures.scanned Skim c.args.offset _ fed)) (λ all is. c.into_notes.ensures ∙ is.notes)
