use Rattle.mxf_views.proofs.Common.{◌∙◌, ap, sym, length, nat_lt, ltb-true, ltb-false}
use Rattle.mxf_views.proofs.KeyedLists.{first_between, keys_never_fall, none_between, rise_by}
use Rattle.mxf_views.proofs.kept.keyed.any_between.Goals as goal

pub up_to-requires : goal.up_to-requires
up_to-requires g c = keys_never_fall g.T.Keyed.key c.args.items.now c.requires

pub returns-in-Some : goal.returns-in-Some
returns-in-Some g c =
    let key = g.T.Keyed.key in
    let items = c.args.items.now in
    let at = c.up_to in
    let found = c.in-Some.ensures.lookup in
    ap (λ o. nat_lt o c.args.high) (c.key.ensures ∙ ap key found.1)
    ∙ first_between key c.args.low c.args.high items at.result _ ((rise_by key items).0 c.requires)
    (ltb-true _ _ (sym found.0)) at.ensures.below at.ensures.above

pub returns-in-None : goal.returns-in-None
returns-in-None g c =
    let at = c.up_to in
    sym (none_between g.T.Keyed.key c.args.low c.args.high c.args.items.now at.result
    (ltb-false at.result (length c.args.items.now) (sym c.in-None.ensures.lookup.0)) at.ensures.below
    at.ensures.bound)
