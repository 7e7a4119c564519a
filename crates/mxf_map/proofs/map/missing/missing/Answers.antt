use Rattle.mxf_views.proofs.Common.{◌<◌, List, subst, sym, ℕ, AllByRecursion, greatest_end, In}
use Rattle.mxf_restore.specs.Missing.{missing_places}
use Rattle.mxf_map.proofs.LayerLaws.{missing_within, offsets_of}
use Rattle.mxf_map.proofs.map.missing.missing.Goals as goal

pub set_of-requires : goal.set_of-requires
set_of-requires c = subst (λ (xs : List ℕ). AllByRecursion (λ x. x < greatest_end) xs) (sym c.deref.ensures.value)
    (missing_within c.args.holdings.now c.in_ok-places.places.items c.in_ok-places.ensures)

pub returns : goal.returns
returns c = offsets_of c.set_of.result c.deref.result.now c.in_ok-places.places.items
    (λ x. In x (missing_places c.args.holdings.now)) c.deref.ensures.value c.in_ok-places.ensures c.set_of.ensures
