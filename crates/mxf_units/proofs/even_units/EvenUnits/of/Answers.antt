use Rattle.mxf_views.proofs.Common.{◌≡◌, ◌∙◌, Some, arith, sym}
use Rattle.mxf_units.proofs.EvenTests.{first_zone, gives_both, has_size, last_zone, if_none, renamed, some_size, tests_say}
use Rattle.mxf_units.proofs.even_units.EvenUnits.of.Goals as goal
use Rattle.mxf_units.proofs.even_units.EvenUnits.of.Goals.{then-last-first-via-then-last-first}
use Rattle.mxf_units.proofs.even_units.EvenUnits.of.Goals.{then-not-is_told_in-via-then-not-is_told_in}
use Rattle.mxf_units.proofs.even_units.EvenUnits.of.Goals.{then-not-is_told_in-via-else-not-is_told_in+then-not-gives_both}
use Rattle.mxf_units.proofs.even_units.EvenUnits.of.Goals.{then-last-first-via-else-last-first+then-last-gt-GREATEST_UNIT}
use Rattle.mxf_units.proofs.even_units.EvenUnits.of.Goals.{then-last-first-via-else-last-first+else-last-gt-GREATEST_UNIT+then-size-eq0}

pub returns-in_err-size-clause-none : goal.returns-in_err-size-clause-none
returns-in_err-size-clause-none c = if_none _ c.from_residual.result c.from_residual.ensures (λ e a b d are.
    has_size c.args.units.now c.segments-segments.result.now c.segments-segments.ensures c.args.first c.args.last e.size
    e.zone (renamed c.args.units.now c.args.first c.args.last e a b d are) (sym c.common_size.ensures ∙ c.in_err-size.was))

pub returns-in_err-zone-clause-none : goal.returns-in_err-zone-clause-none
returns-in_err-zone-clause-none c =
    if_none _ c.from_residual-in_err-zone.result c.from_residual-in_err-zone.ensures (λ e a b d are.
    let begin = first_zone c.args.units.now c.segments-segments.result.now c.segments-segments.ensures c.args.first
    c.args.last e.size e.zone (renamed c.args.units.now c.args.first c.args.last e a b d are) in
    let none = sym c.told_zone.ensures ∙ c.in_err-zone.was in
    let f = sym begin ∙ none in cc f)

pub returns-then-last-first-clause-none : goal.returns-then-last-first-clause-none
returns-then-last-first-clause-none c = λ e a b d are.
    let u = c.args.units.now in
    let same = renamed u c.args.first c.args.last e a b d are in
    elim c.then-last-first.branch [
      | then-last-first-via-then-last-first w ↦ let l = same.order in absurd (omega (arith, l, w.if-last-first.true))
      | then-last-first-via-else-last-first+then-last-gt-GREATEST_UNIT w ↦
          let n = same.number in absurd (omega (arith, n, w.if-last-gt-GREATEST_UNIT.true))
      | then-last-first-via-else-last-first+else-last-gt-GREATEST_UNIT+then-size-eq0 w ↦
          let l = some_size u c.segments-segments.result.now c.segments-segments.ensures c.args.first c.args.last e.size
          e.zone same (c.in_ok-size.size, c.in_ok-size.field-0-1) (sym c.common_size.ensures ∙ c.in_ok-size.was) in absurd (omega (arith, l, w.if-size-eq0.true))
    ]

pub returns-then-not-is_told_in-clause-none : goal.returns-then-not-is_told_in-clause-none
returns-then-not-is_told_in-clause-none c = λ e a b d are.
    let u = c.args.units.now in
    let same = renamed u c.args.first c.args.last e a b d are in
    let listed = c.segments-segments.result.now in
    let order = c.segments-segments.ensures in
    let begin = first_zone u listed order c.args.first c.args.last e.size e.zone same in
    let end = last_zone u listed order c.args.first c.args.last e.size e.zone same in
    let zones : Some c.in_ok-zone.zone ≡ Some e.zone = sym (sym c.told_zone.ensures ∙ c.in_ok-zone.was) ∙ begin in
    elim c.then-not-is_told_in.branch [
      | then-not-is_told_in-via-then-not-is_told_in w ↦
          let yes = c.is_told_in.ensures.1 (end ∙ sym zones) in
          let no = w.if-not-is_told_in.true in cc (yes, no)
      | then-not-is_told_in-via-else-not-is_told_in+then-not-gives_both w ↦
          let yes = gives_both u listed order c.args.first c.args.last e.size e.zone same in
          let is = w.gives_both.ensures in
          let no = w.if-not-gives_both.true in cc (yes, is, no)
    ]

pub invariant_of-result : goal.invariant_of-result
invariant_of-result c =
    tests_say c.args.units.now c.segments-segments.result.now c.segments-segments.ensures c.args.first c.args.last
    (c.in_ok-size.size, c.in_ok-size.field-0-1) c.in_ok-zone.zone
    (sym c.common_size.ensures ∙ c.in_ok-size.was) (sym c.told_zone.ensures ∙ c.in_ok-zone.was)
    (omega (arith, c.if-last-first.false)) (omega (arith, c.if-last-gt-GREATEST_UNIT.false))
    (omega (arith, c.if-size-eq0.false)) (c.is_told_in.ensures.0 c.if-not-is_told_in.false)
    (sym c.gives_both.ensures ∙ c.if-not-gives_both.false)

pub returns-clause-even : goal.returns-clause-even
returns-clause-even c =
    tests_say c.args.units.now c.segments-segments.result.now c.segments-segments.ensures c.args.first c.args.last
    (c.in_ok-size.size, c.in_ok-size.field-0-1) c.in_ok-zone.zone
    (sym c.common_size.ensures ∙ c.in_ok-size.was) (sym c.told_zone.ensures ∙ c.in_ok-zone.was)
    (omega (arith, c.if-last-first.false)) (omega (arith, c.if-last-gt-GREATEST_UNIT.false))
    (omega (arith, c.if-size-eq0.false)) (c.is_told_in.ensures.0 c.if-not-is_told_in.false)
    (sym c.gives_both.ensures ∙ c.if-not-gives_both.false)
