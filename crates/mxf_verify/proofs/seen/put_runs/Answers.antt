use Rattle.mxf_views.proofs.Common.{subst, In}
use Rattle.mxf_verify.proofs.SeenLaws.{in_either}
use Rattle.mxf_verify.proofs.seen.put_runs.Goals as goal

pub returns-in_err-push-clause-members : goal.returns-in_err-push-clause-members
returns-in_err-push-clause-members c = λ r i.
    in_either c.loop-run.runs.items c.loop-run.run-iterator c.args.runs.now.items c.args.cover.now c.loop-run.invariant r
    (subst (In r) c.in_err-push.ensures.items i)

pub returns-clause-members : goal.returns-clause-members
returns-clause-members c = λ r i.
    in_either c.loop-run.runs.items c.loop-run.run-iterator c.args.runs.now.items c.args.cover.now c.loop-run.invariant r i
