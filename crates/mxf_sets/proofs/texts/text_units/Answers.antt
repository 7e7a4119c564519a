use Rattle.std.proofs.Common.{append_assoc, arith}
use Rattle.mxf_sets.proofs.TextLemmas.{next_unit}
use Rattle.mxf_sets.proofs.texts.text_units.Goals as goal

pub units-preserved : goal.units-preserved
units-preserved c = grind (arith, append_assoc, next_unit)
