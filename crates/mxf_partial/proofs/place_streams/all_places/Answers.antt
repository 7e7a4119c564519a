use Rattle.mxf_views.proofs.Common.{◌≡◌, ◌∙◌, ◌++◌, List, ap, map, rules, YieldsList-from_map, YieldsList-from_slice}
use Rattle.mxf_views.proofs.Common.{items_from_extend, YieldsList-from_copied, map-map, in_numbers, partitions_of}
use Rattle.mxf_restore.specs.declared.named.NamedPlace.{NamedPlace}
use Rattle.mxf_partial.specs.NearTable.{partition_place}
use Rattle.mxf_partial.proofs.PlaceLaws.{on_ok}
use Rattle.mxf_partial.proofs.place_streams.all_places.Goals as goal

pub returns : goal.returns
returns c =
    let named = c.args.named.now in
    let lent = c.partitions_in_numbers.result.now in
    let ps = partitions_of c.args.views.now in
    let same : map partition_place lent ≡ map partition_place ps =
    ap (map partition_place) c.partitions_in_numbers.ensures.partitions ∙ map-map partition_place in_numbers ps in
    let first = items_from_extend c.extend.result c.extend.ensures.ran
    (YieldsList-from_copied (YieldsList-from_slice named cc)) in
    let second = items_from_extend c.extend-2.result c.extend-2.ensures.ran
    (YieldsList-from_map _ partition_place (YieldsList-from_slice lent cc) c.map.ensures.closure
    (λ x r q k. search rules)) in
    let a = on_ok c.extend.result c.in_ok-extend.field-0 first c.in_ok-extend.was in
    let b = on_ok c.extend-2.result c.in_ok-extend-2.field-0 second c.in_ok-extend-2.was in
    b.0 ∙ ap (λ (l : List NamedPlace). l ++ map partition_place lent)
    (a.0 ∙ ap (λ (l : List NamedPlace). l ++ named) c.new-places.ensures.items)
    ∙ ap (λ (l : List NamedPlace). named ++ l) same
