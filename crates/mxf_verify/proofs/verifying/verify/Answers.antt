use Rattle.mxf_views.proofs.Common.{◌≡◌, ◌∙◌, ◌<◌, arith, length, sym, into_iter_items}
use Rattle.mxf_read.proofs.GatheringLaws.{passed_none, passed_one, passed_within, told}
use Rattle.mxf_verify.proofs.VerifyingLaws.{seen_all, seen_fault, seen_nothing, seen_one}
use Rattle.mxf_verify.proofs.verifying.verify.Goals as goal

pub parts-init : goal.parts-init
parts-init g c = grind (arith, into_iter_items, passed_none, seen_nothing)

pub overflow_add-source : goal.overflow_add-source
overflow_add-source g c =
    let all = c.args.parts.items in
    let within : c.parts.number < length all =
    passed_within all (into_iter_items c.parts.part-iterator) (into_iter_items c.next.new.self) c.in-Some.part
    c.parts.number c.parts.invariant.passed c.in-Some.ensures.steps.0 in
    omega (arith, within, c.args.parts.ok.0, c.args.parts.small)

pub returns-in-Err-clause-fault : goal.returns-in-Err-clause-fault
returns-in-Err-clause-fault g c t =
    let left = g.R.Read.remaining in
    let all = c.args.parts.items in
    let i = c.parts.invariant in
    let next = c.in-Some.ensures.steps.0 in
    seen_fault left c.args.reference.now all _ _ c.in-Some.part c.parts.number _ c.in-Err.fault (i.seen t) next
    (c.in-Err.ensures.fault (told left all _ _ c.in-Some.part c.parts.number i.passed next t))

pub parts-preserved : goal.parts-preserved
parts-preserved g c =
    let left = g.R.Read.remaining in
    let all = c.args.parts.items in
    let i = c.parts.invariant in
    let next = c.in-Some.ensures.steps.0 in
    record {
      passed = passed_one all _ _ c.in-Some.part c.parts.number i.passed next;
      seen = λ t.
          let tells = told left all _ _ c.in-Some.part c.parts.number i.passed next t in
          seen_one left c.args.reference.now all _ _ c.in-Some.part c.parts.number _ _ (i.seen t) next
          (c.in_default.ensures.taken tells) (c.in_default.ensures.good tells);
    }

pub returns-clause-verified : goal.returns-clause-verified
returns-clause-verified g c t =
    let none : length (into_iter_items c.parts.part-iterator) ≡ 0 =
    sym c.parts.part-iterator.rest.ok.0 ∙ c.in-None.ensures.steps.0 in
    let all = seen_all g.R.Read.remaining c.args.reference.now c.args.parts.items
    (into_iter_items c.parts.part-iterator)
    c.parts.number _ (c.parts.invariant.seen t) none in
    (all.0, all.1, c.in_ok-finish.ensures all.0 all.2)
