use Rattle.mxf_views.proofs.Common.{◌≡◌, ◌∙◌, ◌+◌, ◌-◌, ◌≤◌, arith, ap, sym}
use Rattle.mxf_units.specs.EvenUnits.{EvenParts, counts_of, counts_of_standing}
use Rattle.mxf_units.specs.Ranges.{units_from}
use Rattle.mxf_units.specs.Units.{unit_of}
use Rattle.mxf_units.specs.declared.unit.EditUnit.{EditUnit}
use Rattle.mxf_units.proofs.EvenLaws.{both_counts, one_counts}
use Rattle.mxf_units.proofs.even_units.EvenUnits.counts.Goals as goal

pub overflow_add-result : goal.overflow_add-result
overflow_add-result c =
    let a = c.counts_from-before.ensures.bound in
    let b = c.count_of-last.ensures.bound in
    let n = c.self.invariant.number in omega (arith, a, b, n)

pub overflow_add-result-2 : goal.overflow_add-result-2
overflow_add-result-2 c =
    let a = c.counts_from-before.ensures.bound in
    let b = c.count_of-last.ensures.bound in
    let n = c.self.invariant.number in omega (arith, a, b, n)

pub returns-clause-counts : goal.returns-clause-counts
returns-clause-counts c =
    let is = c.self.view_is in
    let order = c.self.invariant.order in
    let first = ap (λ (p : EvenParts). p.first) is in
    let last = ap (λ (p : EvenParts). p.last) is in
    let units = ap (λ (p : EvenParts). p.units) is in
    let u = c.args.self.now.units in
    let less : c.args.self.now.last - c.args.self.now.first ≤ c.args.self.now.last - c.args.self.now.first + 1 =
    omega arith in
    let one : c.args.self.now.last - c.args.self.now.first + 1 - (c.args.self.now.last - c.args.self.now.first) ≡ 1 =
    omega arith in
    let at : c.args.self.now.first + (c.args.self.now.last - c.args.self.now.first) ≡ c.args.self.now.last =
    omega (arith, order, first, last) in
    both_counts u c.args.self.now.first (c.args.self.now.last - c.args.self.now.first)
    (c.args.self.now.last - c.args.self.now.first + 1) c.counts_from-before.result c.count_of-last.result less
    (c.counts_from-before.ensures.counts ∙ (λ i. counts_of (units_from u (first i) (last i - first i))))
    (c.count_of-last.ensures.counts ∙ ap (λ (n : EditUnit). counts_of_standing n.standing) c.unit.ensures
    ∙ (λ i. counts_of_standing (unit_of (units i).known (units i).index_sid (last i)).standing)
    ∙ one_counts u c.args.self.now.last ∙ (λ i. counts_of (units_from u (sym at i) (sym one i))))

pub returns-clause-bound : goal.returns-clause-bound
returns-clause-bound c =
    let first = ap (λ (p : EvenParts). p.first) c.self.view_is in
    let last = ap (λ (p : EvenParts). p.last) c.self.view_is in
    let a = c.counts_from-before.ensures.bound in
    let b = c.count_of-last.ensures.bound in
    let l = c.self.invariant.order in omega (arith, a, b, first, last, l)
