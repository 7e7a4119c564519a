use Rattle.std.proofs.Common.{arith}
use Rattle.mxf_klv.proofs.LengthLemmas.{pow_256}
use Rattle.mxf_klv.proofs.ber.Ber.new.Goals as goal

pub pow-requires : goal.pow-requires
pow-requires c = omega (arith, pow_256 c.from-in-2-to-9.result (omega arith))
