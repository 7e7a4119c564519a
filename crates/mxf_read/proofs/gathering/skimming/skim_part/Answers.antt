use Rattle.std.proofs.Common.{subst, sym}
use Rattle.mxf_read.specs.declared.gathering.part.Part.{Part}
use Rattle.mxf_read.specs.Gathering.{Tells}
use Rattle.mxf_read.specs.SkimGathering.{TakesSkim}
use Rattle.mxf_read.proofs.SkimPieces.{piece_skimmed, range_skimmed, saved_skimmed}
use Rattle.mxf_read.proofs.gathering.skimming.skim_part.Goals as goal

pub returns-in_ok-push-in-Piece-clause-taken : goal.returns-in_ok-push-in-Piece-clause-taken
returns-in_ok-push-in-Piece-clause-taken g c =
    let left = g.R.Read.remaining in
    subst (λ (p : Part _). Tells left p
    → TakesSkim left c.args.number p c.args.levels.now c.add.new.self c.args.reports.now c.push.new.self)
    (sym c.in-Piece.is)
    (piece_skimmed left c.args.number c.in-Piece.offset c.in-Piece.from c.args.levels.now c.add.new.self
    c.in_ok-notes-in-Piece.notes
    c.in_ok-notes-in-Piece.report c.args.reports.now c.push.new.self
    c.in_ok-notes-in-Piece.ensures.notes c.in_ok-notes-in-Piece.ensures.report c.in_ok-add-in-Piece.ensures
    c.in_ok-push-in-Piece.ensures)

pub returns-in_ok-push-in-Range-clause-taken : goal.returns-in_ok-push-in-Range-clause-taken
returns-in_ok-push-in-Range-clause-taken g c =
    let left = g.R.Read.remaining in
    subst (λ (p : Part _). Tells left p
    → TakesSkim left c.args.number p c.args.levels.now c.add-in-Range.new.self c.args.reports.now
    c.push-in-Range.new.self) (sym c.in-Range.is)
    (range_skimmed left c.args.number c.in-Range.offset c.in-Range.from c.args.levels.now c.add-in-Range.new.self
    c.in_ok-notes-in-Range.notes c.in_ok-notes-in-Range.report c.args.reports.now c.push-in-Range.new.self
    c.in_ok-notes-in-Range.ensures.notes c.in_ok-notes-in-Range.ensures.report c.in_ok-add-in-Range.ensures
    c.in_ok-push-in-Range.ensures)

pub returns-in_ok-add-in-Saved-clause-taken : goal.returns-in_ok-add-in-Saved-clause-taken
returns-in_ok-add-in-Saved-clause-taken g c =
    let left = g.R.Read.remaining in
    let reports = c.args.reports.now in
    subst (λ (p : Part _). Tells left p
    → TakesSkim left c.args.number p c.args.levels.now c.add-in-Saved.new.self reports reports) (sym c.in-Saved.is)
    (saved_skimmed left c.in-Saved.from c.args.levels.now c.add-in-Saved.new.self c.args.number
    c.in_ok-saved-in-Saved.saved reports
    c.in_ok-saved-in-Saved.ensures.saved c.in_ok-add-in-Saved.ensures)
