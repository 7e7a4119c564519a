use Rattle.mxf_views.proofs.Common.{length, arith, filter, is_set_note, length-filter_le}
use Rattle.mxf_views.proofs.copy.sets.Sets.of.Goals as goal

pub returns-clause-bound : goal.returns-clause-bound
returns-clause-bound c = grind (arith, length, filter, is_set_note, length-filter_le)
