use Rattle.std.proofs.Common.{[], ◌≡◌, ◌∙◌, sym, subst, List, arith}
use Rattle.std.specs.Vec.Iter.{into_iter_items}
use Rattle.mxf_read.proofs.GatheringLaws.{IsPassed, IsGathered, passed_none, gathered_none, passed_one, gathered_one}
use Rattle.mxf_read.proofs.GatheringLaws.{nothing_left, passed_all, passed_within, gathered_good, gathered_reports}
use Rattle.mxf_read.proofs.GatheringLaws.{gathered_run, gathered_left, gathered_nothing, fault_at, wants_at_end}
use Rattle.mxf_read.proofs.GatheringLaws.{told}
use Rattle.mxf_read.proofs.gathering.gather.Goals as goal

pub parts-init : goal.parts-init
parts-init g c =
    let all = c.args.parts.items in
    let is : into_iter_items c.into_iter-part-iterator.result ≡ all =
    c.into_iter-part-iterator.ensures.into_iter_gives.0 in
    record {
      passed = subst (IsPassed all 0) (sym is) (passed_none all);
      gathered = λ t. rw (c.new-levels.ensures, c.new-reports.ensures)
          (subst (λ (l : List _). IsGathered g.R.Read.remaining all 0 l [] []) (sym is)
          (gathered_none g.R.Read.remaining all));
    }

pub returns-in-Err-clause-fault : goal.returns-in-Err-clause-fault
returns-in-Err-clause-fault g c t =
    let left = g.R.Read.remaining in
    let all = c.args.parts.items in
    let i = c.parts.invariant in
    let next = c.in-Some.ensures.steps.0 in
    fault_at left all _ _ c.in-Some.part c.parts.number c.in-Err.fault (i.gathered t).passed (i.gathered t).good next
    (c.in-Err.ensures.fault (told left all _ _ c.in-Some.part c.parts.number i.passed next t))

pub parts-preserved : goal.parts-preserved
parts-preserved g c =
    let left = g.R.Read.remaining in
    let all = c.args.parts.items in
    let i = c.parts.invariant in
    let next = c.in-Some.ensures.steps.0 in
    record {
      passed = passed_one all _ _ c.in-Some.part c.parts.number i.passed next;
      gathered = λ t. gathered_one left all _ _ c.in-Some.part c.parts.number _ _ _ _ (i.gathered t) next
          (c.in_default.ensures.taken (told left all _ _ c.in-Some.part c.parts.number i.passed next t));
    }

pub returns-then-number-eq0-clause-run : goal.returns-then-number-eq0-clause-run
returns-then-number-eq0-clause-run g c t =
    gathered_nothing g.R.Read.remaining c.args.parts.items (into_iter_items c.parts.part-iterator) c.parts.number _
    c.parts.invariant.passed (sym c.parts.part-iterator.rest.ok.0 ∙ c.in-None.ensures.steps.0) c.if-number-eq0.true
    c.new.ensures

pub returns-then-number-eq0-clause-history : goal.returns-then-number-eq0-clause-history
returns-then-number-eq0-clause-history g c t =
    nothing_left g.R.Read.remaining c.args.parts.items (into_iter_items c.parts.part-iterator) c.parts.number _
    c.parts.invariant.passed (sym c.parts.part-iterator.rest.ok.0 ∙ c.in-None.ensures.steps.0) c.if-number-eq0.true
    c.new.ensures

pub returns-in-Ok-clause-history : goal.returns-in-Ok-clause-history
returns-in-Ok-clause-history g c t = grind (arith, gathered_left, into_iter_items)

pub returns-in-Ok-clause-run : goal.returns-in-Ok-clause-run
returns-in-Ok-clause-run g c t = grind (arith, gathered_run, into_iter_items)

pub returns-in-Err-into_views-clause-fault : goal.returns-in-Err-into_views-clause-fault
returns-in-Err-into_views-clause-fault g c t =
    let none = sym c.parts.part-iterator.rest.ok.0 ∙ c.in-None.ensures.steps.0 in
    wants_at_end g.R.Read.remaining c.args.parts.items (into_iter_items c.parts.part-iterator) c.parts.number
    (c.parts.invariant.gathered t).passed
    (gathered_good g.R.Read.remaining c.args.parts.items (into_iter_items c.parts.part-iterator) c.parts.number _ _
    (c.parts.invariant.gathered t) none) none (omega arith)

pub returns-then-number-eq0-clause-good : goal.returns-then-number-eq0-clause-good
returns-then-number-eq0-clause-good g c t = grind (arith, gathered_good, into_iter_items)

pub returns-in-Ok-clause-good : goal.returns-in-Ok-clause-good
returns-in-Ok-clause-good g c t = grind (arith, gathered_good, into_iter_items)

pub returns-in-Ok-clause-reports : goal.returns-in-Ok-clause-reports
returns-in-Ok-clause-reports g c t = grind (arith, gathered_reports, into_iter_items)

pub returns-in-Err-clause-number : goal.returns-in-Err-clause-number
returns-in-Err-clause-number g c =
    passed_within c.args.parts.items (into_iter_items c.parts.part-iterator) _ c.in-Some.part c.parts.number
    c.parts.invariant.passed c.in-Some.ensures.steps.0

pub returns-then-number-eq0-clause-reports : goal.returns-then-number-eq0-clause-reports
returns-then-number-eq0-clause-reports g c t = grind (arith, gathered_reports, into_iter_items)

pub returns-in-Err-into_views-clause-number : goal.returns-in-Err-into_views-clause-number
returns-in-Err-into_views-clause-number g c =
    let all = passed_all c.args.parts.items (into_iter_items c.parts.part-iterator) c.parts.number
    c.parts.invariant.passed (sym c.parts.part-iterator.rest.ok.0 ∙ c.in-None.ensures.steps.0) in
    omega (arith, all, c.if-number-eq0.false)
