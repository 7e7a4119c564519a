use denote.Bor.{Bor}
use Rattle.mxf_views.proofs.Common.{◌∙◌, ◌==◌, rules, sym, covered_end, NoteParts, YieldsList-from_slice}
use Rattle.mxf_views.proofs.Common.{items_from_collect, YieldsList-at, YieldsList-from_copied, YieldsList-from_filter}
use Rattle.mxf_views.proofs.NumbersLaws.{filter_mapped}
use Rattle.mxf_places.proofs.heads.Heads.ending_at.Goals as goal

pub returns : goal.returns
returns c =
    let ends = λ (n : NoteParts). covered_end n == c.args.end in
    let h = items_from_collect c.collect.result c.collect.ensures.ran (YieldsList-from_copied
    (YieldsList-at c.copied.ensures.source (YieldsList-from_filter _ (λ (r : Bor NoteParts). ends r.now)
    (YieldsList-from_slice c.near-near.result.now cc) c.filter-ending.ensures.closure (λ x r q k. search rules)))) in
    let all = sym (filter_mapped ends (λ (r : Bor NoteParts). r.now) c.near-near.result.now) ∙ c.near-near.ensures in
    search (h, all, rules)
