use Rattle.mxf_views.proofs.Common.{arith, inl, inr, refl}
use Rattle.mxf_hand.proofs.ExcerptLaws.{added_next, is_run}
use Rattle.mxf_hand.proofs.given.excerpt.add_excerpts.Goals as goal

pub overflow_sub-extent : goal.overflow_sub-extent
overflow_sub-extent c =
    let one = is_run c.args.cover.now c.loop-run.run-iterator c.next.new.self c.in-Some.run'
    c.runs-run-items.ensures.cover c.in-Some.ensures.steps c.loop-run.invariant.left in
    let order = one.order in omega (arith, order)

pub invariant_of-extent : goal.invariant_of-extent
invariant_of-extent c =
    let one = is_run c.args.cover.now c.loop-run.run-iterator c.next.new.self c.in-Some.run'
    c.runs-run-items.ensures.cover c.in-Some.ensures.steps c.loop-run.invariant.left in
    let order = one.order in
    let within = one.within in record { within = omega (arith, order, within) }

pub loop-run-preserved : goal.loop-run-preserved
loop-run-preserved c =
    let step = added_next c.args.source c.args.cover.now c.loop-run.run-iterator c.next.new.self c.in-Some.run' _
    c.args.excerpts.now.items c.loop-run.excerpts.items c.push.new.self.items c.in-Some.ensures.steps
    c.in_ok-push.ensures.items (record { number = refl; offset = refl; size = refl }) c.loop-run.invariant.left
    c.loop-run.invariant.kept c.loop-run.invariant.come c.loop-run.invariant.there in record {
      kept = step.0;
      come = step.1;
      there = step.2;
      left = step.3;
    }

pub returns : goal.returns
returns c = record {
  kept = c.loop-run.invariant.kept;
  come = c.loop-run.invariant.come;
  there = λ r h. elim (c.loop-run.invariant.there r h) [
    | inl k ↦ absurd (rw c.in-None.ensures.steps.0 at k)
    | inr k ↦ k
  ];
}
