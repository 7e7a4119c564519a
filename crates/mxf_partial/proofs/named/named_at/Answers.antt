use Rattle.std.proofs.Common.{◌∙◌, ◌≤◌, Some, ap, arith, length, sym}
use Rattle.std.proofs.lemmas.Bool.{ltb-false, ltb-true}
use Rattle.std.specs.Option.{option_copied}
use Rattle.mxf_views.proofs.KeyedLists.{found_at, keys_never_fall, not_found, rise_by, same_at}
use Rattle.mxf_restore.specs.declared.named.NamedPlace.{NamedPlace}
use Rattle.mxf_partial.proofs.named.named_at.Goals as goal

pub below-requires : goal.below-requires
below-requires c = keys_never_fall (λ (n : NamedPlace). n.place) c.args.named.now c.requires

pub returns-then-found-place : goal.returns-then-found-place
returns-then-found-place c =
    let key = λ (n : NamedPlace). n.place in
    let items = c.args.named.now in
    let found = c.in_ok-found.ensures.lookup in
    ap Some found.1
    ∙ found_at key c.args.place items c.below.result _ ((rise_by key items).0 c.requires) (ltb-true _ _ (sym found.0))
    (ap key (sym found.1) ∙ c.if-found-place.true)

pub returns-else-found-place : goal.returns-else-found-place
returns-else-found-place c =
    let key = λ (n : NamedPlace). n.place in
    let items = c.args.named.now in
    let found = c.in_ok-found.ensures.lookup in
    let at = c.below.ensures in
    sym (not_found key c.args.place items c.below.result (keys_never_fall key items c.requires) at.below
    (λ d l a e. c.if-found-place.false (ap key (found.1 ∙ same_at items c.below.result _ d l) ∙ e)) at.above)

pub returns-in_err-found : goal.returns-in_err-found
returns-in_err-found c =
    let key = λ (n : NamedPlace). n.place in
    let items = c.args.named.now in
    let at = c.below.ensures in
    let none : length items ≤ c.below.result = ltb-false _ _ (sym c.in_err-found.ensures.lookup.0) in
    ap option_copied c.from_residual.ensures
    ∙ sym (not_found key c.args.place items c.below.result (keys_never_fall key items c.requires) at.below
    (λ d l a e. omega (arith, l, none)) at.above)
