use Rattle.mxf_views.proofs.Common.{◌≡◌, ◌∙◌, List, [], length, subst, sym, into_iter_items, NoteParts}
use Rattle.mxf_read.specs.declared.gathering.report.PieceReport.{PieceReport}
use Rattle.mxf_read.proofs.GatheringLaws.{IsPassed, passed_none, passed_one, told}
use Rattle.mxf_hints.proofs.ContentsLaws.{AreTaken, reported_all, taken_all, taken_none, taken_one}
use Rattle.mxf_hints.proofs.ShiftLaws.{shifts_none}
use Rattle.mxf_hints.proofs.contents.gather_each.Goals as goal

pub parts-init : goal.parts-init
parts-init g c =
    let left = g.R.Read.remaining in
    let all = c.args.parts.items in
    let is : into_iter_items c.into_iter-part-iterator.result ≡ all =
    c.into_iter-part-iterator.ensures.into_iter_gives.0 in
    record {
      shifts = shifts_none _ _ c.new.ensures.items c.new-2.ensures.items;
      passed = subst (IsPassed all 0) (sym is) (passed_none all);
      taken = λ t. subst (λ (l : List _). AreTaken left all 0 l c.new.result.items c.new-3.result.items) (sym is)
          (subst (λ (held : List (List NoteParts)). AreTaken left all 0 all held c.new-3.result.items)
          (sym c.new.ensures.items)
          (subst (λ (held : List PieceReport). AreTaken left all 0 all [] held) (sym c.new-3.ensures.items)
          (taken_none left all)));
    }

pub parts-preserved : goal.parts-preserved
parts-preserved g c =
    let left = g.R.Read.remaining in
    let all = c.args.parts.items in
    let i = c.parts.invariant in
    let next = c.in-Some.ensures.steps.0 in
    record {
      shifts = c.in_default.ensures.shifts i.shifts;
      passed = passed_one all _ _ c.in-Some.part c.parts.number i.passed next;
      taken = λ t. taken_one left all _ _ c.in-Some.part c.parts.number _ _ _ _ (i.taken t) next
          (c.in_default.ensures.taken (told left all _ _ c.in-Some.part c.parts.number i.passed next t));
    }

pub returns-clause-shifts : goal.returns-clause-shifts
returns-clause-shifts g c = c.parts.invariant.shifts

pub returns-clause-runs : goal.returns-clause-runs
returns-clause-runs g c t =
    let none : length (into_iter_items c.parts.part-iterator) ≡ 0 =
    sym c.parts.part-iterator.rest.ok.0 ∙ c.in-None.ensures.steps.0 in
    taken_all g.R.Read.remaining c.args.parts.items (into_iter_items c.parts.part-iterator) c.parts.number
    c.parts.contents.contents.items c.parts.contents.reports.items (c.parts.invariant.taken t) none

pub returns-clause-reports : goal.returns-clause-reports
returns-clause-reports g c t =
    let none : length (into_iter_items c.parts.part-iterator) ≡ 0 =
    sym c.parts.part-iterator.rest.ok.0 ∙ c.in-None.ensures.steps.0 in
    reported_all g.R.Read.remaining c.args.parts.items (into_iter_items c.parts.part-iterator) c.parts.number
    c.parts.contents.contents.items c.parts.contents.reports.items (c.parts.invariant.taken t) none
