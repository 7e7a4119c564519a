use Rattle.std.proofs.Common.{◌∙◌, subst, sym}
use Rattle.mxf_catalogue.specs.Content.{has_note}
use Rattle.mxf_skim.proofs.preferring.gives_way.Goals as goal

pub returns-clause-yes : goal.returns-clause-yes
returns-clause-yes c = λ yes. (
  sym c.is_passed_over.ensures ∙ c.if-not-is_passed_over.false,
  subst (has_note c.args.read.now) c.to_head-head.ensures (c.has.ensures.0 yes),
)

pub returns-clause-no : goal.returns-clause-no
returns-clause-no c = λ no passed has.
    let yes = c.has.ensures.1 (subst (has_note c.args.read.now) (sym c.to_head-head.ensures) has) in cc (yes, no)
