use Rattle.mxf_views.proofs.Common.{sym, ◌∙◌, none_if}
use Rattle.mxf_read.proofs.Reports.{report_cut_head, report_cut_value, report_end, report_stopped}
use Rattle.mxf_read.proofs.piece.Piece.report.Goals.{else-is_none-via-then-is_none+else-is_empty}
use Rattle.mxf_read.proofs.piece.Piece.report.Goals.{else-is_none-via-else-is_none}
use Rattle.mxf_read.proofs.piece.Piece.report.Goals as goal

pub returns-in-Some : goal.returns-in-Some
returns-in-Some c = λ scan o m fed. report_stopped scan o m c.args.self.now _ c.in-Some.stop fed c.len-noted.ensures c.in-Some.is

pub returns-then-is_empty : goal.returns-then-is_empty
returns-then-is_empty c = λ scan o m fed.
    report_end scan o m c.args.self.now _ c.args.self.now.head.len fed c.len-noted.ensures c.in_default.is
    (none_if c.args.self.now.value c.if-is_none.ensures) c.args.self.now.head.ok.0 (sym c.is_empty.ensures
    ∙ c.if-is_empty.true)

pub returns : goal.returns
returns c = λ scan o m fed.
    elim c.else-is_none.branch [
      | else-is_none-via-then-is_none+else-is_empty w ↦
          report_cut_head scan o m c.args.self.now _ c.args.self.now.head.len fed c.len-noted.ensures c.in_default.is
          (none_if c.args.self.now.value w.if-is_none.ensures) c.args.self.now.head.ok.0 (sym w.is_empty.ensures
          ∙ w.if-is_empty.false)
      | else-is_none-via-else-is_none w ↦
          report_cut_value scan o m c.args.self.now _ fed c.len-noted.ensures c.in_default.is w.if-is_none.ensures
    ]
