use Rattle.std.proofs.Common.{arith}
use Rattle.mxf_catalogue.proofs.CoverLaws.{length-gaps}
use Rattle.mxf_catalogue.proofs.cover.gaps.CoverGaps.of.Goals as goal

pub returns-clause-bound : goal.returns-clause-bound
returns-clause-bound c = omega (arith, length-gaps 0)
