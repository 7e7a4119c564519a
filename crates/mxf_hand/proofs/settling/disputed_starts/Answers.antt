use Rattle.mxf_views.proofs.Common.{rules, YieldsList-from_map, items_from_collect, YieldsList-at}
use Rattle.mxf_views.proofs.Common.{YieldsList-from_filter, YieldsList-from_first, DisputedParts, disputed_notes}
use Rattle.mxf_hand.proofs.settling.disputed_starts.Goals as goal

pub returns : goal.returns
returns c =
    let h = items_from_collect _ c.collect.ensures.ran (YieldsList-from_map _ (λ (d : DisputedParts). d.note.offset)
    (YieldsList-at c.map.ensures.source (YieldsList-from_filter _ (λ (d : DisputedParts). d.note.whole)
    (YieldsList-from_first (λ x. x) (λ s. s) (disputed_notes c.args.catalogue.now) cc)
    c.filter-whole.ensures.closure (λ x r q k. search rules)))
    c.map.ensures.closure (λ x r q k. search rules)) in search rules
