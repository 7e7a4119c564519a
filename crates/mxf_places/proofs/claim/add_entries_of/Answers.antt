use Rattle.mxf_views.proofs.Common.{map, rules, items_from_extend, YieldsList-from_filter_map, YieldsList-from_first}
use Rattle.mxf_places.specs.Claims.{entry_claim}
use Rattle.mxf_places.proofs.claim.add_entries_of.Goals as goal

pub returns : goal.returns
returns c =
    let h = items_from_extend c.extend.result c.extend.ensures.ran (YieldsList-from_filter_map _
    (entry_claim c.args.rip.now.offset)
    (YieldsList-from_first (λ x. x) (λ s. s) (map (λ e. e.0) c.args.rip.now.entries) cc)
    c.filter_map-found.ensures.closure (λ x r q k. search rules)) in search rules
