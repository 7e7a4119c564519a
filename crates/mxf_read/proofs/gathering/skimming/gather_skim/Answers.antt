use Rattle.std.proofs.Common.{[], ◌≡◌, ◌∙◌, sym, subst, List, arith}
use Rattle.std.specs.Vec.Iter.{into_iter_items}
use Rattle.mxf_read.proofs.GatheringLaws.{IsPassed, fault_at, passed_all, passed_none, passed_one, passed_within, told}
use Rattle.mxf_read.proofs.GatheringLaws.{wants_at_end}
use Rattle.mxf_read.proofs.SkimLaws.{IsSkimmed, skimmed_all, skimmed_good, skimmed_none, skimmed_nothing, skimmed_one}
use Rattle.mxf_read.proofs.SkimLaws.{skimmed_reports}
use Rattle.mxf_read.proofs.gathering.skimming.gather_skim.Goals as goal

pub parts-init : goal.parts-init
parts-init g c =
    let all = c.args.parts.items in
    let is : into_iter_items c.into_iter-part-iterator.result ≡ all =
    c.into_iter-part-iterator.ensures.into_iter_gives.0 in
    record {
      passed = subst (IsPassed all 0) (sym is) (passed_none all);
      gathered = λ t. rw (c.new-levels.ensures, c.new-reports.ensures)
          (subst (λ (l : List _). IsSkimmed g.R.Read.remaining all 0 l [] []) (sym is)
          (skimmed_none g.R.Read.remaining all));
    }

pub returns-in-Err-clause-fault : goal.returns-in-Err-clause-fault
returns-in-Err-clause-fault g c t =
    let left = g.R.Read.remaining in
    let all = c.args.parts.items in
    let i = c.parts.invariant in
    let next = c.in-Some.ensures.steps.0 in
    fault_at left all _ _ c.in-Some.part c.parts.number c.in-Err.fault (i.gathered t).passed (i.gathered t).good next
    (c.in-Err.ensures.fault (told left all _ _ c.in-Some.part c.parts.number i.passed next t))

pub parts-preserved : goal.parts-preserved
parts-preserved g c =
    let left = g.R.Read.remaining in
    let all = c.args.parts.items in
    let i = c.parts.invariant in
    let next = c.in-Some.ensures.steps.0 in
    record {
      passed = passed_one all _ _ c.in-Some.part c.parts.number i.passed next;
      gathered = λ t. skimmed_one left all _ _ c.in-Some.part c.parts.number _ _ _ _ (i.gathered t) next
          (c.in_default.ensures.taken (told left all _ _ c.in-Some.part c.parts.number i.passed next t));
    }

pub returns-in-Err-into_skim-clause-fault : goal.returns-in-Err-into_skim-clause-fault
returns-in-Err-into_skim-clause-fault g c t =
    let none = sym c.parts.part-iterator.rest.ok.0 ∙ c.in-None.ensures.steps.0 in
    wants_at_end g.R.Read.remaining c.args.parts.items (into_iter_items c.parts.part-iterator) c.parts.number
    (c.parts.invariant.gathered t).passed
    (skimmed_good g.R.Read.remaining c.args.parts.items (into_iter_items c.parts.part-iterator) c.parts.number _ _
    (c.parts.invariant.gathered t) none) none (omega arith)

pub returns-then-number-eq0-clause-good : goal.returns-then-number-eq0-clause-good
returns-then-number-eq0-clause-good g c t = grind (arith, skimmed_good, into_iter_items)

pub returns-in-Ok-clause-good : goal.returns-in-Ok-clause-good
returns-in-Ok-clause-good g c t = grind (arith, skimmed_good, into_iter_items)

pub returns-in-Ok-clause-reports : goal.returns-in-Ok-clause-reports
returns-in-Ok-clause-reports g c t = grind (arith, skimmed_reports, into_iter_items)

pub returns-in-Err-clause-number : goal.returns-in-Err-clause-number
returns-in-Err-clause-number g c =
    passed_within c.args.parts.items (into_iter_items c.parts.part-iterator) _ c.in-Some.part c.parts.number
    c.parts.invariant.passed c.in-Some.ensures.steps.0

pub returns-then-number-eq0-clause-reports : goal.returns-then-number-eq0-clause-reports
returns-then-number-eq0-clause-reports g c t = grind (arith, skimmed_reports, into_iter_items)

pub returns-in-Err-into_skim-clause-number : goal.returns-in-Err-into_skim-clause-number
returns-in-Err-into_skim-clause-number g c =
    let all = passed_all c.args.parts.items (into_iter_items c.parts.part-iterator) c.parts.number
    c.parts.invariant.passed (sym c.parts.part-iterator.rest.ok.0 ∙ c.in-None.ensures.steps.0) in
    omega (arith, all, c.if-number-eq0.false)

pub returns-then-number-eq0-clause-skim : goal.returns-then-number-eq0-clause-skim
returns-then-number-eq0-clause-skim g c t =
    skimmed_nothing g.R.Read.remaining c.args.parts.items (into_iter_items c.parts.part-iterator) c.parts.number _
    c.parts.invariant.passed (sym c.parts.part-iterator.rest.ok.0 ∙ c.in-None.ensures.steps.0) c.if-number-eq0.true
    c.new.ensures

pub returns-in-Ok-clause-skim : goal.returns-in-Ok-clause-skim
returns-in-Ok-clause-skim g c t =
    skimmed_all g.R.Read.remaining c.args.parts.items (into_iter_items c.parts.part-iterator) c.parts.number _ _ _
    (c.parts.invariant.gathered t) (sym c.parts.part-iterator.rest.ok.0 ∙ c.in-None.ensures.steps.0) c.in-Ok.ensures
