use Rattle.mxf_views.proofs.Common.{◌∙◌, sym, arith, not-false, not-true, none_if}
use Rattle.mxf_read.proofs.Tellings.{cut_tells, none_left, stopped_tells}
use Rattle.mxf_read.proofs.piece.Piece.wants.Goals.{then-left-gt0, else-left-gt0}
use Rattle.mxf_read.proofs.piece.Piece.wants.Goals as goal

pub returns-then-not-has_stopped-clause-enough : goal.returns-then-not-has_stopped-clause-enough
returns-then-not-has_stopped-clause-enough c = λ e scan o m x len fed.
    elim c.if-left-gt0.branch [
      | then-left-gt0 w ↦ cut_tells scan o m x c.args.self.now c.args.left
          (none_if c.args.self.now.stop (sym w.has_stopped.ensures
          ∙ not-true _ (sym w.value-is ∙ c.if-not-has_stopped.true))) len (sym c.is_cut.ensures ∙ not-false _ e) fed
      | else-left-gt0 w ↦ none_left scan o m x c.args.self.now (omega arith) fed
    ]

pub returns-else-not-has_stopped-clause-enough : goal.returns-else-not-has_stopped-clause-enough
returns-else-not-has_stopped-clause-enough c = λ e scan o m x len fed.
    elim c.if-left-gt0.branch [
      | then-left-gt0 w ↦
          stopped_tells scan o m x c.args.self.now (sym w.has_stopped.ensures ∙ not-false _ (sym w.value-is ∙ e)) fed
      | else-left-gt0 w ↦ none_left scan o m x c.args.self.now (omega arith) fed
    ]
