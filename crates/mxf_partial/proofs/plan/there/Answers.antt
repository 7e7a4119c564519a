use Rattle.mxf_views.proofs.Common.{◌≡◌, ◌∙◌, ◌++◌, List, ap, map, rules, items_from_collect, YieldsList-from_first}
use Rattle.mxf_views.proofs.Common.{IfOk-weaker}
use Rattle.mxf_catalogue.specs.declared.run.Run.{Run}
use Rattle.mxf_partial.specs.Gathered.{run_of_order}
use Rattle.mxf_partial.proofs.GatheredLaws.{there-ends, there-say}
use Rattle.mxf_partial.proofs.plan.there.Goals as goal

-- The runs of what is known, and behind them those of the orders.
parts : (c : goal.After-cover_of)
    → c.add_ordered.new.runs.items ≡ c.known.result.now ++ map run_of_order c.args.orders.now
parts c =
    let known = c.known.result.now in
    let h = items_from_collect _ c.collect.ensures.ran (YieldsList-from_first (λ x. x) (λ s. s) known cc) in
    let held : c.in_ok-runs.runs.items ≡ known = search (h, rules) in
    c.in_ok-add_ordered.ensures ∙ ap (λ (l : List Run). l ++ map run_of_order c.args.orders.now) held

pub cover_of-requires : goal.cover_of-requires
cover_of-requires c =
    let known = c.known.result.now in
    let h = items_from_collect _ c.collect.ensures.ran (YieldsList-from_first (λ x. x) (λ s. s) known cc) in
    let held : c.in_ok-runs.runs.items ≡ known = search (h, rules) in
    there-ends c.args.orders.now known c.add_ordered.new.runs.items c.runs.ensures.cover
    (c.in_ok-add_ordered.ensures ∙ ap (λ (l : List Run). l ++ map run_of_order c.args.orders.now) held)

pub returns : goal.returns
returns c = IfOk-weaker c.cover_of.result _ _
    (λ cover same. there-say c.args.units.now.known c.args.orders.now c.known.result.now c.add_ordered.new.runs.items
    cover c.known.ensures (parts c) same) c.cover_of.ensures
