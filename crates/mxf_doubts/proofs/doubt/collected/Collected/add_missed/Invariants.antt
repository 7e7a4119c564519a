use Rattle.std.proofs.Common.{◌≡◌, ◌++◌, drop, map}
use Rattle.mxf_doubts.specs.declared.doubt.Code.TheVariants.{G04}
use Rattle.mxf_doubts.specs.Codes.{doubt}
use Rattle.mxf_doubts.specs.Doubts.{doubts_for}
use Rattle.mxf_doubts.proofs.doubt.collected.Collected.add_missed.Given as goal

abbrev pub invariant-loop-offset : goal.invariant-loop-offset
invariant-loop-offset l = l.self ++ map (doubt G04) (drop l.offset-index l.offset-items) ≡ l.fn.self ++ doubts_for G04 l.asked
