use Rattle.mxf_views.proofs.Common.{inr, sym}
use Rattle.mxf_views.proofs.AboveCopies.{last_copy, last_held, others_before}
use Rattle.mxf_views.proofs.kept.above.starting.Goals as goal

pub returns-clause-starting : goal.returns-clause-starting
returns-clause-starting c = λ d h e. inr (
  c.in_ok-last.last.now,
  last_held c.args.copies.now c.in_ok-last.last.now (sym c.in_ok-last.ensures.value),
  last_copy c.args.copies.now c.in_ok-last.last.now d c.requires (sym c.in_ok-last.ensures.value) h e,
)

pub returns-clause-last : goal.returns-clause-last
returns-clause-last c =
    others_before c.args.copies.now c.in_ok-last.last.now c.requires (sym c.in_ok-last.ensures.value)
