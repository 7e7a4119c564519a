use Rattle.mxf_views.proofs.Common.{ℕ, max, rules, YieldsList-from_slice, items_from_collect, YieldsList-from_scan}
use Rattle.mxf_catalogue.specs.declared.run.Run.{Run}
use Rattle.mxf_units.proofs.IntervalLaws.{greater}
use Rattle.mxf_verify.proofs.ReachLaws.{scanned}
use Rattle.mxf_verify.proofs.ranges.greatest_ends.Goals as goal

pub returns : goal.returns
returns c =
    let next = λ (a : ℕ) (x : Run). max a x.end in
    let h = items_from_collect _ c.collect.ensures.ran (YieldsList-from_scan _ next next 0
    (YieldsList-from_slice c.args.runs.now cc) c.scan-ends.ensures.state c.scan-ends.ensures.closure
    (λ b x r q d k. search (greater, rules))) in search (h, scanned (λ (r : Run). r.end) 0 c.args.runs.now, rules)
