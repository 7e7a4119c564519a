use Rattle.mxf_views.proofs.Common.{◌≡◌, ◌∷◌, ◌++◌, [], rules, items_from_collect, YieldsList-from_first, greatest_end}
use Rattle.mxf_views.proofs.Common.{gaps_of_runs, run}
use Rattle.mxf_verify.proofs.RangeLaws.{below_greatest, outside-offsets, outside-within}
use Rattle.mxf_verify.proofs.ranges.outside.Goals as goal

pub returns : goal.returns
returns c =
    let cover = c.args.cover.now in
    let is = c.gaps.ensures.cover in
    let gaps = gaps_of_runs cover in
    let h = items_from_collect _ c.collect.ensures.ran (YieldsList-from_first (λ x. x) (λ s. s) gaps cc) in
    let parts : c.push.new.self.items ≡ gaps ++ run c.end.result greatest_end ∷ [] = search (h, rules) in record {
      offsets = outside-offsets cover is c.end.result c.push.new.self.items c.end.ensures parts;
      within = outside-within cover is c.end.result c.push.new.self.items c.end.ensures parts;
      below = below_greatest cover is;
    }
