use Rattle.std.proofs.Common.{◌∙◌, sym}
use Rattle.mxf_read.proofs.Reports.{coming_head, held_head, stopped_head, same_with_none, with_one_head}
use Rattle.mxf_klv.proofs.Tests.{none_if}
use Rattle.mxf_read.proofs.piece.Piece.add_head.Goals as goal

pub returns-then-has_stopped-clause-added : goal.returns-then-has_stopped-clause-added
returns-then-has_stopped-clause-added c = λ scan o m fed. same_with_none c.args.self.now.notes _
    (stopped_head scan o m c.args.self.now fed (sym c.has_stopped.ensures ∙ c.if-has_stopped.true))

pub returns-in_ok-add-clause-added : goal.returns-in_ok-add-clause-added
returns-in_ok-add-clause-added c = λ scan o m fed.
    with_one_head c.args.self.now.notes c.add.new.self _ c.head.result _ c.in_ok-add.ensures.added c.head.ensures
    (coming_head scan o m c.args.self.now c.in-Some.value fed
    (none_if c.args.self.now.stop (sym c.has_stopped.ensures ∙ c.if-has_stopped.false)) c.in-Some.is)

pub returns-in_default-clause-added : goal.returns-in_default-clause-added
returns-in_default-clause-added c = λ scan o m fed. same_with_none c.args.self.now.notes _ (held_head scan o m c.args.self.now fed
    (none_if c.args.self.now.stop (sym c.has_stopped.ensures ∙ c.if-has_stopped.false)) c.in_default.is)
