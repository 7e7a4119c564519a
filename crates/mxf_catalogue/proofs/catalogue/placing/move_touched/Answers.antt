use Rattle.std.proofs.Common.{arith, sym, subst}
use Rattle.mxf_catalogue.specs.NoteLists.{StandApart}
use Rattle.mxf_klv.proofs.ListSteps.{middle}
use Rattle.mxf_catalogue.proofs.catalogue.placing.move_touched.Goals as goal

pub range-from-requires-clause-apart : goal.range-from-requires-clause-apart
range-from-requires-clause-apart c = subst StandApart (sym c.deref.ensures.value) c.requires.apart

pub loop-moved-init : goal.loop-moved-init
loop-moved-init c = grind (arith, middle)
