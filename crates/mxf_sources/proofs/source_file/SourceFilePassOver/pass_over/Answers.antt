use Rattle.std.proofs.Common.{arith}
use Rattle.mxf_sources.proofs.PassedLaws.{unknown_passed}
use Rattle.mxf_sources.proofs.source_file.SourceFilePassOver.pass_over.Goals as goal

pub returns-in_default : goal.returns-in_default
returns-in_default g c = unknown_passed c.args.count c.in_ok-passed.passed c.in_ok-passed.ensures

pub returns-in_ok-seek : goal.returns-in_ok-seek
returns-in_ok-seek g c =
    unknown_passed c.args.count c.min-passed.result (omega (arith, c.min.ensures, c.min-passed.ensures))

pub returns-else-passed-gt0 : goal.returns-else-passed-gt0
returns-else-passed-gt0 g c =
    unknown_passed c.args.count c.min-passed.result (omega (arith, c.min.ensures, c.min-passed.ensures))
