use Rattle.std.proofs.Common.{arith, sym}
use Rattle.std.proofs.Math.Seq.{take_all}
use Rattle.mxf_lines.proofs.printing.line.item.front.Goals as goal

pub returns-in-None : goal.returns-in-None
returns-in-None c = sym (take_all 32 c.args.value.now (omega (arith, c.in-None.ensures.cases)))
