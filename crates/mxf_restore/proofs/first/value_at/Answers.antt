use Rattle.std.proofs.Common.{◌≡◌, ◌-◌, ◌∙◌, None, suc, sym, ap, arith}
use Rattle.mxf_restore.specs.declared.first.Step.{Step}
use Rattle.mxf_restore.proofs.StepLaws.{never_decrease, said_by, value_passed}
use Rattle.mxf_restore.proofs.first.value_at.Goals as goal

pub up_to-passed-requires : goal.up_to-passed-requires
up_to-passed-requires c = never_decrease 0 c.args.steps.now c.requires

pub returns-then-passed-eq0 : goal.returns-then-passed-eq0
returns-then-passed-eq0 c =
    let steps = c.args.steps.now in
    let d : Step = record { from = 0; claim = None } in
    let e : c.up_to-passed.result ≡ 0 = omega arith in
    let found = value_passed None steps c.args.offset c.up_to-passed.result d c.up_to-passed.ensures.bound
    c.up_to-passed.ensures.below c.up_to-passed.ensures.above in
    sym (found ∙ ap (said_by None steps d) e)

pub returns : goal.returns
returns c =
    let steps = c.args.steps.now in
    let d : Step = record { from = 0; claim = None } in
    let e : c.up_to-passed.result ≡ suc (c.up_to-passed.result - 1) = omega arith in
    let found = value_passed None steps c.args.offset c.up_to-passed.result d c.up_to-passed.ensures.bound
    c.up_to-passed.ensures.below c.up_to-passed.ensures.above in
    sym (found ∙ ap (said_by None steps d) e)
