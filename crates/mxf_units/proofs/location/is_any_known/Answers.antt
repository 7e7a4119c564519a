use Rattle.mxf_views.proofs.Common.{◌∙◌, ◌<◌, ℕ, arith, subst, sym, le-ltb}
use Rattle.mxf_units.specs.Units.{IsKnown, is_any_known}
use Rattle.mxf_units.proofs.RangeLaws.{any-past, any-within, any_known-says}
use Rattle.mxf_units.proofs.location.is_any_known.Goals as goal

pub returns-then-from-end : goal.returns-then-from-end
returns-then-from-end c = λ known are.
    let below = λ (x : ℕ) (k : IsKnown known x). (c.end.ensures c.end.result).0 (omega arith) x ((are x).1 k) in
    any-within (IsKnown known) c.args.from c.args.to c.meets.result (is_any_known known c.args.from c.args.to)
    c.min.result c.from-end.result (any_known-says known c.args.from c.args.to)
    (λ x k. subst (λ (e : ℕ). x < e) (sym c.from-end.ensures) (below x k)) c.min.ensures (
      λ h. let s = c.meets.ensures.0 h in (s.0, (are s.0).0 s.1, s.2, s.3),
      λ s. c.meets.ensures.1 (s.0, (are s.0).1 s.1, s.2, s.3),
    )

pub returns-else-from-end : goal.returns-else-from-end
returns-else-from-end c = λ known are.
    let below = λ (x : ℕ) (k : IsKnown known x). (c.end.ensures c.end.result).0 (omega arith) x ((are x).1 k) in
    le-ltb c.args.from c.from-end.result (omega (arith, c.if-from-end.false))
    ∙ sym (any-past (IsKnown known) c.args.from c.args.to (is_any_known known c.args.from c.args.to) c.end.result
    (any_known-says known c.args.from c.args.to) below (omega (arith, c.if-from-end.false, c.from-end.ensures)))
