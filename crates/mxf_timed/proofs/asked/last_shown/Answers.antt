use Rattle.mxf_timed.proofs.BoundLaws.{last_small}
use Rattle.mxf_timed.proofs.asked.last_shown.Goals as goal

pub returns-in-At-clause-greatest : goal.returns-in-At-clause-greatest
returns-in-At-clause-greatest c =
    last_small c.args.runs.now c.in-Some-Timecode.word c.in-At.first c.in-At.last c.in-At.ensures.0
