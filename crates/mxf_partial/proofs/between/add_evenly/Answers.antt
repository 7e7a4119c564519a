use Rattle.mxf_views.proofs.Common.{◌↔◌, ◌⊎◌, List, subst, sym, on_ok_weaker, In, In-append}
use Rattle.mxf_restore.specs.declared.named.NamedPlace.{NamedPlace}
use Rattle.mxf_partial.proofs.ChosenLaws.{evenly_few, evenly_many, or_same}
use Rattle.mxf_partial.proofs.between.add_evenly.Goals as goal

pub returns-then-places-gt-MOST_CHOSEN : goal.returns-then-places-gt-MOST_CHOSEN
returns-then-places-gt-MOST_CHOSEN c = on_ok_weaker c.add_16.result
    (λ m n. or_same (m n) (evenly_many c.args.places.now n c.if-places-gt-MOST_CHOSEN.true)) c.add_16.ensures

pub returns : goal.returns
returns c n =
    let places = c.args.places.now in
    let old = c.args.asked.now.items in
    or_same (subst (λ (l : List NamedPlace). In n l ↔ (In n old ⊎ In n places))
    (sym c.in_ok-extend_from_slice.ensures.items) (In-append n old places))
    (evenly_few places n c.if-places-gt-MOST_CHOSEN.false)
