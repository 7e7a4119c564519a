use Rattle.std.proofs.Common.{sym, drop, arith, ◌+◌}
use Rattle.mxf_read.proofs.Starts.{too_far_on}
use Rattle.mxf_read.proofs.range.may_begin_at.Goals as goal

pub returns-in-None : goal.returns-in-None
returns-in-None c =
    sym (too_far_on (c.args.offset + c.args.position) (drop c.args.position c.args.window.now) (omega arith))
