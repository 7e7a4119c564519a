use Rattle.std.proofs.Common.{◌≡◌, ◌+◌, ap, subst, sym, arith}
use Rattle.mxf_timed.specs.Positions.{IsAnswer, IsRangeAt}
use Rattle.mxf_timed.specs.declared.positions.ShownAt.TheVariants.{At}
use Rattle.mxf_timed.proofs.RangeLaws.{ends_are, no_ends, too_early}
use Rattle.mxf_timed.proofs.positions.shown_when.Goals as goal

pub returns-then-gone_after-gone : goal.returns-then-gone_after-gone
returns-then-gone_after-gone c = too_early c.args.run.now c.args.gone (omega arith)

pub returns-then-first-last : goal.returns-then-first-last
returns-then-first-last c =
    no_ends c.args.run.now c.args.most c.args.gone c.first_unit-first.result c.last_unit-last.result c.requires.most
    (record {
      firsts = c.first_unit-first.ensures.first;
      lasts = c.last_unit-last.ensures.last;
      within = c.last_unit-last.ensures.most;
    }) c.if-first-last.true

pub returns : goal.returns
returns c =
    let r = c.args.run.now in
    let first = c.first_unit-first.result in
    let last = c.last_unit-last.result in
    let answer = ends_are r c.args.most c.args.gone first last c.requires.most (record {
      firsts = c.first_unit-first.ensures.first;
      lasts = c.last_unit-last.ensures.last;
      within = c.last_unit-last.ensures.most;
    }) c.if-first-last.false in
    let f : r.position + first ≡ c.position.result + first = sym (ap (λ p. p + first) c.position.ensures) in
    let l : r.position + last ≡ c.position-2.result + last = sym (ap (λ p. p + last) c.position-2.ensures) in
    subst (λ y. IsAnswer (IsRangeAt r (r.number + c.args.gone)) (At (c.position.result + first) y)) l
    (subst (λ x. IsAnswer (IsRangeAt r (r.number + c.args.gone)) (At x (r.position + last))) f answer)
