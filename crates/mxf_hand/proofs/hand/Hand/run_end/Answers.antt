use Rattle.std.proofs.Common.{◌∙◌, ap, sym}
use Rattle.mxf_hand.specs.Hand.{HandParts, run_end}
use Rattle.mxf_hand.proofs.HandLaws.{run_end-above, run_end-none, run_end-some}
use Rattle.mxf_hand.proofs.hand.Hand.run_end.Goals as goal

pub returns-in_err-run : goal.returns-in_err-run
returns-in_err-run c = c.from_residual.ensures ∙ sym (run_end-none c.self.inside.runs c.args.offset
    (sym c.runs_between.ensures.runs ∙ c.in_err-run.ensures.steps.0))
    ∙ ap (λ (a : HandParts). run_end a.runs c.args.offset) c.self.view_is

pub returns-then-run-offset : goal.returns-then-run-offset
returns-then-run-offset c = sym (run_end-some c.self.inside.runs c.next.new.self c.args.offset c.in_ok-run.run'
    (sym c.runs_between.ensures.runs ∙ c.in_ok-run.ensures.steps) c.if-run-offset.true)
    ∙ ap (λ (a : HandParts). run_end a.runs c.args.offset) c.self.view_is

pub returns-else-run-offset : goal.returns-else-run-offset
returns-else-run-offset c = sym (run_end-above c.self.inside.runs c.next.new.self c.args.offset c.in_ok-run.run'
    (sym c.runs_between.ensures.runs ∙ c.in_ok-run.ensures.steps) c.if-run-offset.false)
    ∙ ap (λ (a : HandParts). run_end a.runs c.args.offset) c.self.view_is
