use Rattle.std.proofs.Common.{ap}
use Rattle.mxf_verify.specs.Telling.{notes_at}
use Rattle.mxf_verify.proofs.FinishingLaws.{damaged_once}
use Rattle.mxf_verify.proofs.finishing.damaged_in.Goals as goal

pub returns-clause-members : goal.returns-clause-members
returns-clause-members c = damaged_once c.new-damaged.result _ c.add.new.self c.into_ordered.result c.args.differing.now
    c.in_ok-differing.differing.items c.new-damaged.ensures c.in_ok-differing.ensures
    (ap notes_at c.deref.ensures.value) c.in_ok-add.ensures c.into_ordered.ensures
