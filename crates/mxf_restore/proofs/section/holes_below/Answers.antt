use Rattle.mxf_views.proofs.Common.{rules, YieldsList-from_map, items_from_collect, YieldsList-at}
use Rattle.mxf_views.proofs.Common.{YieldsList-from_filter, YieldsList-from_first, gaps_of}
use Rattle.mxf_places.specs.Held.{is_held}
use Rattle.mxf_restore.specs.Sections.{closed_hole}
use Rattle.mxf_restore.proofs.section.holes_below.Goals as goal

pub returns : goal.returns
returns c =
    let h = items_from_collect _ c.collect.ensures.ran (YieldsList-from_map _ closed_hole
    (YieldsList-at c.map-holes.ensures.source (YieldsList-from_filter _ (λ gap. is_held c.args.holdings.now gap.end)
    (YieldsList-from_first (λ x. x) (λ s. s) (gaps_of c.args.holdings.now) cc)
    c.filter.ensures.closure (λ x r q k. search rules)))
    c.map-holes.ensures.closure (λ x r q k. search rules)) in search rules
