use Rattle.std.proofs.Common.{◌∙◌, arith, sym}
use Rattle.mxf_map.proofs.ExtentLaws.{all-within, first-kept, none-before, none-lies}
use Rattle.mxf_map.proofs.extent.next_change.Goals as goal

pub returns-in-Some : goal.returns-in-Some
returns-in-Some c =
    let runs = c.args.cover.now in
    let from = c.args.from in
    let end = c.args.end in
    let maximal = c.runs_between.ensures.cover.maximal in
    let r = c.in-Some.run' in
    let e = sym c.runs_between.ensures.runs ∙ c.in-Some.ensures.steps in
    let kept = first-kept runs maximal from end r c.next.new.self e in
    let before = c.if-from-run.true in
    let below = kept.1 in
    let none = none-before runs maximal from end r c.next.new.self e in
    record {
      above = before;
      within = omega (arith, below);
      same = λ x above under. (
        λ h. absurd (none x above (omega (arith, under, below)) under h),
        λ h. absurd (none from (omega arith) (omega (arith, before, below)) before h),
      );
    }

pub returns-in-Some-2 : goal.returns-in-Some-2
returns-in-Some-2 c =
    let runs = c.args.cover.now in
    let from = c.args.from in
    let end = c.args.end in
    let maximal = c.runs_between.ensures.cover.maximal in
    let r = c.in-Some.run' in
    let e = sym c.runs_between.ensures.runs ∙ c.in-Some.ensures.steps in
    let kept = first-kept runs maximal from end r c.next.new.self e in
    let behind = kept.0 in
    let least = c.min.ensures in
    let begun = c.if-from-run.false in
    let some = c.requires in
    let all = all-within runs maximal from end r c.next.new.self e in
    record {
      above = omega (arith, least, behind, some);
      within = omega (arith, least);
      same = λ x above under. (
        λ h. all from (omega (arith, begun)) behind,
        λ h. all x (omega (arith, begun, above)) (omega (arith, under, least)),
      );
    }

pub returns-in-None : goal.returns-in-None
returns-in-None c =
    let runs = c.args.cover.now in
    let from = c.args.from in
    let end = c.args.end in
    let maximal = c.runs_between.ensures.cover.maximal in
    let e = sym c.runs_between.ensures.runs ∙ c.in-None.ensures.steps.0 in
    let none = none-lies runs maximal from end e in
    let some = c.requires in
    record {
      above = some;
      within = omega arith;
      same = λ x above under. (λ h. absurd (none x above under h), λ h. absurd (none from (omega arith) some h));
    }
