use Rattle.mxf_views.proofs.Common.{◌≡◌, ◌+◌, ◌-◌, ◌<◌, ◌^◌, ◌≤◌, arith, subst, sym, clear_notes, covered_of}
use Rattle.mxf_views.proofs.Common.{prefaces_of, clear_from, AreInRange, SumsParts}
use Rattle.mxf_views.proofs.MarkLaws.{covered_by, covered_fits, covered_order, prefaces_by, prefaces_fit}
use Rattle.mxf_views.proofs.MarkLaws.{prefaces_order}
use Rattle.mxf_views.proofs.kept.sums.Sums.counts_by.Goals.{After-counts-above}
use Rattle.mxf_views.proofs.kept.sums.Sums.counts_by.Goals as goal

low : (c : After-counts-above) → c.self.inside.boundary ≤ c.args.start
low c = subst (λ (s : SumsParts). s.boundary ≤ c.args.start) (sym c.self.view_is) c.requires.above

range : (c : After-counts-above)
    → AreInRange (clear_from c.self.inside.boundary c.self.inside.catalogue.now) c.args.start c.args.bytes
    c.args.first.now c.args.last.now
range c = grind (arith, clear_from)

covered_all : (c : After-counts-above)
    → c.counts-below.result.covered + (c.args.last.now.covered - c.args.first.now.covered)
    + c.counts-above.result.covered ≡ covered_of c.args.start c.args.bytes (clear_notes c.self.inside.catalogue.now)
covered_all c =
    let all = covered_by c.self.inside.boundary c.args.start c.args.bytes c.self.inside.catalogue.now c.args.first.now
    c.args.last.now c.laws.ensures.catalogue (low c) (range c) in
    omega (arith, all, c.counts-below.ensures.covered, c.counts-above.ensures.covered)

prefaces_all : (c : After-counts-above)
    → c.counts-below.result.prefaces + (c.args.last.now.prefaces - c.args.first.now.prefaces)
    + c.counts-above.result.prefaces ≡ prefaces_of c.args.start c.args.bytes (clear_notes c.self.inside.catalogue.now)
prefaces_all c =
    let all = prefaces_by c.self.inside.boundary c.args.start c.args.bytes c.self.inside.catalogue.now c.args.first.now
    c.args.last.now c.laws.ensures.catalogue (low c) (range c) in
    omega (arith, all, c.counts-below.ensures.prefaces, c.counts-above.ensures.prefaces)

covered_bound : (c : After-counts-above)
    → covered_of c.args.start c.args.bytes (clear_notes c.self.inside.catalogue.now) ≤ c.args.bytes
covered_bound c = covered_fits c.args.start c.args.bytes (clear_notes c.self.inside.catalogue.now) c.laws.ensures.apart

prefaces_bound : (c : After-counts-above)
    → prefaces_of c.args.start c.args.bytes (clear_notes c.self.inside.catalogue.now) < 2 ^ 64
prefaces_bound c = grind (arith, prefaces_fit, clear_notes)

pub overflow_sub-result : goal.overflow_sub-result
overflow_sub-result c =
    let d = (goal.at.overflow_sub-result c).After-counts-above in
    covered_order c.self.inside.boundary c.args.start c.args.bytes c.self.inside.catalogue.now c.args.first.now
    c.args.last.now c.laws.ensures.catalogue (low d) (range d)

pub overflow_add-result : goal.overflow_add-result
overflow_add-result c = grind (arith, After-counts-above, covered_all, covered_bound)

pub overflow_add-result-2 : goal.overflow_add-result-2
overflow_add-result-2 c = grind (arith, After-counts-above, covered_all, covered_bound)

pub overflow_sub-result-2 : goal.overflow_sub-result-2
overflow_sub-result-2 c =
    let d = (goal.at.overflow_sub-result-2 c).After-counts-above in
    prefaces_order c.self.inside.boundary c.args.start c.args.bytes c.self.inside.catalogue.now c.args.first.now
    c.args.last.now c.laws.ensures.catalogue (low d) (range d)

pub overflow_add-result-3 : goal.overflow_add-result-3
overflow_add-result-3 c = grind (arith, After-counts-above, prefaces_all, prefaces_bound)

pub overflow_add-result-4 : goal.overflow_add-result-4
overflow_add-result-4 c = grind (arith, After-counts-above, prefaces_all, prefaces_bound)

pub returns-clause-covered : goal.returns-clause-covered
returns-clause-covered c = grind (arith, After-counts-above, covered_all, covered_of, clear_notes)

pub returns-clause-prefaces : goal.returns-clause-prefaces
returns-clause-prefaces c = grind (arith, After-counts-above, prefaces_all, prefaces_of, clear_notes)
