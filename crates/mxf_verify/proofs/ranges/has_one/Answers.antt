use Rattle.mxf_views.proofs.Common.{◌≡◌, ◌↔◌, ◌<◌, ◌≤◌, ◌-◌, ◌∙◌, ℕ, List, ap, arith, get_or, length, subst, sym}
use Rattle.mxf_views.proofs.Common.{le-leb, leb-true}
use Rattle.mxf_catalogue.specs.declared.run.Run.{Run}
use Rattle.mxf_verify.specs.Reaching.{HasOne}
use Rattle.mxf_units.proofs.IntervalLaws.{length-ends}
use Rattle.mxf_verify.proofs.ReachLaws.{none_reaches, one_reaches}
use Rattle.mxf_verify.proofs.ranges.has_one.Goals as goal

pub returns-then-begun-eq0 : goal.returns-then-begun-eq0
returns-then-begun-eq0 c = (
  λ h. absurd cc,
  λ h. absurd (none_reaches c.args.runs.now c.args.start c.args.end
      (λ k d l b. c.begun_by-begun.ensures.above k d (omega arith) b) h),
)

pub bounds-ends-begun : goal.bounds-ends-begun
bounds-ends-begun c =
    let many : length c.args.ends.now ≡ length c.args.runs.now =
    ap (λ (l : List ℕ). length l) c.requires.ends ∙ length-ends (λ (r : Run). r.end) 0 c.args.runs.now in
    omega (arith, many, c.begun_by-begun.ensures.bound, c.if-begun-eq0.false)

pub returns : goal.returns
returns c =
    let runs = c.args.runs.now in
    let last = c.begun_by-begun.result - 1 in
    let b = c.begun_by-begun.ensures in
    let some : last < length runs = omega (arith, b.bound, c.if-begun-eq0.false) in
    let says = one_reaches runs last c.args.start c.args.end 0 some
    (λ k d l h. b.below k d l (omega (arith, h, c.if-begun-eq0.false)))
    (λ k d l h. b.above k d (omega (arith, l, c.if-begun-eq0.false)) h) in
    let at = subst (λ (ends : List ℕ). (c.args.end ≤ get_or ends last 0) ↔ HasOne runs c.args.start c.args.end)
    (sym c.requires.ends) says in
    (λ t. at.0 (leb-true _ _ t), λ h. le-leb _ _ (at.1 h))
