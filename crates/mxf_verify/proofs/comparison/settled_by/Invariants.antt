use Rattle.mxf_verify.specs.Candidates.{AreSettled}
use Rattle.mxf_verify.proofs.comparison.settled_by.Given as goal

abbrev pub invariant-loop-i : goal.invariant-loop-i
invariant-loop-i l = AreSettled l.i l.at l.candidates
