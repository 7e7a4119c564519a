use Rattle.std.proofs.Common.{◌≡◌, ◌+◌, ◌++◌, ◌∷◌, [], ◌∙◌, ap, subst, sym, take, take_all}
use Rattle.std.proofs.lemmas.List.{take_more}
use Rattle.mxf_timed.specs.Positions.{IsAnswer, IsRange}
use Rattle.mxf_timed.proofs.RangeLaws.{run_more}
use Rattle.mxf_timed.proofs.positions.shown_at.Goals as goal

pub loop-run-preserved : goal.loop-run-preserved
loop-run-preserved c =
    let runs = c.args.runs.now in
    let i = c.loop-run.run-index in
    let run = c.run-item.result in
    let is : take (i + 1) runs ≡ take i runs ++ run ∷ [] =
    take_more runs i run c.loop-run-test.true ∙ ap (λ r. take i runs ++ r ∷ []) (sym c.run-item.is) in
    subst (λ a. IsAnswer (IsRange (take (i + 1) runs) c.args.word) a) (sym c.joined-found.ensures)
    (run_more (take i runs) (take (i + 1) runs) run c.args.word c.loop-run.found c.shown_by.result is
    c.loop-run.invariant c.shown_by.ensures)

pub returns : goal.returns
returns c =
    subst (λ runs. IsAnswer (IsRange runs c.args.word) c.loop-run.found)
    (take_all c.loop-run.run-index c.args.runs.now c.loop-run-test.false) c.loop-run.invariant
