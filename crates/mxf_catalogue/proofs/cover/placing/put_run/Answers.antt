use Rattle.std.proofs.Common.{arith, sym, subst}
use Rattle.std.proofs.lemmas.Grind.{common_steps}
use Rattle.mxf_catalogue.specs.Runs.{LiesIn}
use Rattle.mxf_catalogue.proofs.CoverLaws.{IsCover-with_run}
use Rattle.mxf_catalogue.proofs.cover.placing.put_run.Goals as goal

pub append_run-requires-clause-above : goal.append_run-requires-clause-above
append_run-requires-clause-above c offset h = (c.last_end.ensures c.args.run.start).0 c.if-last_end-run.true offset
    (subst (λ l. LiesIn l offset) (sym c.deref.ensures.value) h)

pub returns-then-last_end-run-clause-cover : goal.returns-then-last_end-run-clause-cover
returns-then-last_end-run-clause-cover c =
    grind (arith, IsCover-with_run c.args.run c.args.runs.now.items c.requires.run c.requires.cover)

pub returns-clause-items : goal.returns-clause-items
returns-clause-items c = grind (arith, common_steps)

pub returns-clause-cover : goal.returns-clause-cover
returns-clause-cover c = search (arith, IsCover-with_run, returns-clause-items)
