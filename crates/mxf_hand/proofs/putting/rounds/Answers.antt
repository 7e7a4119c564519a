use Rattle.std.proofs.Common.{◌∙◌, ◌-◌, ◌+◌, inl, inr, ap, arith, refl, sym}
use Rattle.mxf_hand.specs.Rounds.{rounds}
use Rattle.mxf_hand.proofs.HandLaws.{told_after}
use Rattle.mxf_hand.proofs.RoundLaws.{all_rounds, no_round, round_more, rounds_end}
use Rattle.mxf_hand.proofs.putting.rounds.Goals as goal

pub loop-number-init : goal.loop-number-init
loop-number-init g c = (refl, λ h t. (c.new-barren.ensures h, sym (all_rounds h c.args.held)))

pub returns-then-not-branch-clause-rounds : goal.returns-then-not-branch-clause-rounds
returns-then-not-branch-clause-rounds g c = λ h t.
    let before = c.loop-number.views in
    let (barren, now) = c.loop-number.invariant.1 h t in
    let told = told_after c.loop-number.invariant.0 t in
    let is = c.in_ok-round.ensures.round h told barren in
    elim c.in_ok-round.ensures.none [
      | inl more ↦ absurd (let stopped = c.if-not-branch.true in cc (more, stopped))
      | inr same ↦ same ∙ sym (rounds_end h before (64 - c.loop-number.number) (sym is ∙ same)) ∙ now
    ]

pub loop-number-preserved : goal.loop-number-preserved
loop-number-preserved g c = (
  c.in_ok-round.ensures.told ∙ c.loop-number.invariant.0,
  λ h t.
      let before = c.loop-number.views in
      let left = 64 - (c.loop-number.number + 1) in
      let (barren, now) = c.loop-number.invariant.1 h t in
      let told = told_after c.loop-number.invariant.0 t in
      let is = c.in_ok-round.ensures.round h told barren in
      let test = c.loop-number-test.true in (
        c.in_ok-round.ensures.barren h told barren,
        ap (rounds left h) is ∙ sym (round_more h before (64 - c.loop-number.number) left (omega (arith, test))) ∙ now,
      ),
)

pub returns-clause-rounds : goal.returns-clause-rounds
returns-clause-rounds g c = λ h t.
    let test = c.loop-number-test.false in
    sym (no_round h c.loop-number.views (64 - c.loop-number.number) (omega (arith, test)))
    ∙ (c.loop-number.invariant.1 h t).1
