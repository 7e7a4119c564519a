use Rattle.mxf_views.proofs.Common.{◌∙◌, ◌<◌, ◌≡◌, ◌≤◌, ℕ, arith, subst, sym, le-ltb}
use Rattle.mxf_places.specs.Held.{IsDisputedAt, held_end}
use Rattle.mxf_units.specs.Units.{is_any_disputed}
use Rattle.mxf_units.proofs.RangeLaws.{any-past, any-within, any_disputed-says, disputed-below}
use Rattle.mxf_units.proofs.location.is_any_disputed.Goals as goal

pub returns-then-from-end : goal.returns-then-from-end
returns-then-from-end c =
    let notes = c.args.holdings.now in
    let end : c.from-end.result ≡ held_end notes = c.from-end.ensures ∙ c.held_end.ensures in
    any-within (IsDisputedAt notes) c.args.from c.args.to c.is_any_disputed.result
    (is_any_disputed notes c.args.from c.args.to) c.min.result c.from-end.result
    (any_disputed-says notes c.args.from c.args.to)
    (λ x h. subst (λ (e : ℕ). x < e) (sym end) (disputed-below notes x h)) c.min.ensures c.is_any_disputed.ensures

pub returns-else-from-end : goal.returns-else-from-end
returns-else-from-end c =
    let notes = c.args.holdings.now in
    let far : held_end notes ≤ c.args.from =
    omega (arith, c.if-from-end.false, c.from-end.ensures, c.held_end.ensures) in
    le-ltb c.args.from c.from-end.result (omega (arith, c.if-from-end.false))
    ∙ sym (any-past (IsDisputedAt notes) c.args.from c.args.to (is_any_disputed notes c.args.from c.args.to)
    (held_end notes) (any_disputed-says notes c.args.from c.args.to) (disputed-below notes) far)
