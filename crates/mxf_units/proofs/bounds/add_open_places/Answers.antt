use Rattle.mxf_views.proofs.Common.{rules, YieldsList-from_slice, items_from_extend, YieldsList-from_filter_map}
use Rattle.mxf_units.specs.EssenceZones.{open_place}
use Rattle.mxf_units.proofs.bounds.add_open_places.Goals as goal

pub returns : goal.returns
returns c =
    let h = items_from_extend c.extend.result c.extend.ensures.ran (YieldsList-from_filter_map _
    (open_place c.args.holdings.now) (YieldsList-from_slice c.args.claims.now cc)
    c.filter_map-places.ensures.closure (λ x r q k. search rules)) in search rules
