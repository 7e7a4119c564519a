use Rattle.mxf_timed.proofs.RangeLaws.{no_positions}
use Rattle.mxf_timed.proofs.positions.shown_by.Goals as goal

pub returns-in-None : goal.returns-in-None
returns-in-None c = no_positions c.args.run.now c.args.word c.in-None.ensures.most
