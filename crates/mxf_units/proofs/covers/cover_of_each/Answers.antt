use Rattle.mxf_views.proofs.Common.{◌+◌, List, subst, sym, take, take_all, greatest_end, SameOffsets}
use Rattle.mxf_catalogue.specs.declared.run.Run.{Run}
use Rattle.mxf_catalogue.proofs.CoverLaws.{end_within}
use Rattle.mxf_units.proofs.OffsetLaws.{added-step, skipped-step}
use Rattle.mxf_units.proofs.covers.cover_of_each.Goals.{else-run, then-run+in_ok-add}
use Rattle.mxf_units.proofs.covers.cover_of_each.Goals as goal

pub add-requires-clause-within : goal.add-requires-clause-within
add-requires-clause-within c = end_within greatest_end _ _ _ c.requires c.loop-run-test.true

pub loop-run-preserved : goal.loop-run-preserved
loop-run-preserved c =
    let runs = c.args.runs.now in
    elim c.if-run.branch [
      | then-run+in_ok-add w ↦
          subst (λ (l : List Run). SameOffsets l (take (c.loop-run.run-index + 1) runs)) (sym w.cover-is)
          (added-step runs c.loop-run.cover _ c.loop-run.run-index _ c.loop-run-test.true w.in_ok-add.ensures.added
          c.loop-run.invariant)
      | else-run w ↦
          skipped-step runs c.loop-run.cover _ c.loop-run.run-index _ c.loop-run-test.true w.if-run.false w.cover-is
          c.loop-run.invariant
    ]

pub returns : goal.returns
returns c = subst (λ (l : List Run). SameOffsets c.loop-run.cover l)
    (take_all c.loop-run.run-index c.args.runs.now c.loop-run-test.false) c.loop-run.invariant
