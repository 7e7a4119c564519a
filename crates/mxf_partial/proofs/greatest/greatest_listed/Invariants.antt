-- The greatest offset of the units so far.
use Rattle.mxf_partial.proofs.GreatestLaws.{Reached}
use Rattle.mxf_partial.proofs.greatest.greatest_listed.Given as goal

abbrev pub invariant-loop-unit : goal.invariant-loop-unit
invariant-loop-unit l = Reached l.segment l.unit l.greatest
