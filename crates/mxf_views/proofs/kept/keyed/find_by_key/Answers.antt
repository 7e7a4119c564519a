use Rattle.mxf_views.proofs.Common.{◌∙◌, ◌≤◌, Some, ap, arith, length, ltb-false, ltb-true, sym}
use Rattle.std.specs.Option.{option_copied}
use Rattle.mxf_views.proofs.KeyedLists.{found_at, keys_never_fall, not_found, rise_by, same_at}
use Rattle.mxf_views.proofs.kept.keyed.find_by_key.Goals as goal

pub below-requires : goal.below-requires
below-requires g c = keys_never_fall g.T.Keyed.key c.args.items.now c.requires

pub returns-then-key : goal.returns-then-key
returns-then-key g c =
    let key = g.T.Keyed.key in
    let items = c.args.items.now in
    let found = c.in_ok-item.ensures.lookup in
    ap Some found.1
    ∙ found_at key c.args.key items c.below.result _ ((rise_by key items).0 c.requires) (ltb-true _ _ (sym found.0))
    (ap key (sym found.1) ∙ sym c.key.ensures ∙ c.if-key.true)

pub returns-else-key : goal.returns-else-key
returns-else-key g c =
    let key = g.T.Keyed.key in
    let items = c.args.items.now in
    let found = c.in_ok-item.ensures.lookup in
    let at = c.below.ensures in
    sym (not_found key c.args.key items c.below.result (keys_never_fall key items c.requires) at.below
    (λ d l a e. c.if-key.false (c.key.ensures ∙ ap key (found.1 ∙ same_at items c.below.result _ d l) ∙ e)) at.above)

pub returns-in_err-item : goal.returns-in_err-item
returns-in_err-item g c =
    let key = g.T.Keyed.key in
    let items = c.args.items.now in
    let at = c.below.ensures in
    let none : length items ≤ c.below.result = ltb-false _ _ (sym c.in_err-item.ensures.lookup.0) in
    ap option_copied c.from_residual.ensures
    ∙ sym (not_found key c.args.key items c.below.result (keys_never_fall key items c.requires) at.below
    (λ d l a e. omega (arith, l, none)) at.above)
