use Rattle.mxf_klv.specs.Note.{greatest_end}
use Rattle.mxf_catalogue.proofs.CoverLaws.{start_below_end, end_within}
use Rattle.mxf_catalogue.proofs.cover.CoverSemilattice.join.Goals as goal

pub add-requires-clause-order : goal.add-requires-clause-order
add-requires-clause-order c = start_below_end 0 _ _ _ c.loop-run.invariant.others.maximal c.loop-run-test.true

pub add-requires-clause-within : goal.add-requires-clause-within
add-requires-clause-within c = end_within greatest_end _ _ _ c.loop-run.invariant.others.within c.loop-run-test.true
