use Rattle.mxf_views.proofs.Common.{ℕ, max, rules, YieldsList-from_slice, items_from_collect, YieldsList-from_scan}
use Rattle.mxf_verify.specs.Touching.{back_of}
use Rattle.mxf_verify.specs.declared.unit_places.UnitPlace.{UnitPlace}
use Rattle.mxf_units.proofs.IntervalLaws.{greater}
use Rattle.mxf_verify.proofs.ReachLaws.{scanned}
use Rattle.mxf_verify.proofs.unit_places.backs.Goals as goal

pub returns : goal.returns
returns c =
    let next = λ (a : ℕ) (x : UnitPlace). max a (back_of x) in
    let h = items_from_collect _ c.collect.ensures.ran (YieldsList-from_scan _ next next 0
    (YieldsList-from_slice c.args.places.now cc) c.scan-backs.ensures.state c.scan-backs.ensures.closure
    (λ b x r q d k. search (greater, rules))) in search (h, scanned back_of 0 c.args.places.now, rules)
