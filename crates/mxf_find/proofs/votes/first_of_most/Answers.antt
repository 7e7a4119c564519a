use Rattle.std.proofs.Common.{◌+◌, ◌∙◌, ℕ, arith, get_or, subst, sym}
use Rattle.std.proofs.lemmas.Option.{get_or_from_slice_get, slice_get_within}
use Rattle.mxf_find.proofs.CountLaws.{IsMostSoFar, first_most, most_at_end, next_most, next_same}
use Rattle.mxf_find.proofs.votes.first_of_most.Goals as goal
use Rattle.mxf_find.proofs.votes.first_of_most.Goals.{then-others-count, else-others-count}

pub loop-vote-init : goal.loop-vote-init
loop-vote-init c =
    subst (λ (k : ℕ). IsMostSoFar c.args.votes.now 0 c.in_ok-most.field-0.now k) (sym c.count_with_key-count.ensures)
    (first_most c.args.votes.now c.in_ok-most.field-0.now
    (slice_get_within c.args.votes.now 0 c.in_ok-most.field-0.now (sym c.in_ok-most.ensures.value)) c.requires
    (sym (get_or_from_slice_get c.args.votes.now 0 c.in_ok-most.field-0.now 0 (sym c.in_ok-most.ensures.value))))

pub loop-vote-preserved : goal.loop-vote-preserved
loop-vote-preserved c =
    let xs = c.args.votes.now in
    let i = c.loop-vote.vote-index in
    let so = c.loop-vote.invariant in
    elim c.if-others-count.branch [
      | then-others-count w ↦
          let more = w.if-others-count.true in
          let is = c.count_with_key-others.ensures in
          subst (λ (m : ℕ). IsMostSoFar xs (i + 1) m c.if-others-count.count) (sym w.most-is)
          (subst (λ (k : ℕ). IsMostSoFar xs (i + 1) (get_or xs i 0) k) (sym (w.count-is ∙ is))
          (next_most xs i c.loop-vote.most c.loop-vote.count so c.loop-vote-test.true c.requires
          (omega (arith, more, is))))
      | else-others-count w ↦
          let less = w.if-others-count.false in
          let is = c.count_with_key-others.ensures in
          subst (λ (m : ℕ). IsMostSoFar xs (i + 1) m c.if-others-count.count) (sym w.most-is)
          (subst (λ (k : ℕ). IsMostSoFar xs (i + 1) c.loop-vote.most k) (sym w.count-is)
          (next_same xs i c.loop-vote.most c.loop-vote.count so c.loop-vote-test.true (omega (arith, less, is))))
    ]

pub returns-clause-some : goal.returns-clause-some
returns-clause-some c =
    most_at_end c.args.votes.now c.loop-vote.vote-index c.loop-vote.most c.loop-vote.count c.loop-vote.invariant
    c.loop-vote-test.false
