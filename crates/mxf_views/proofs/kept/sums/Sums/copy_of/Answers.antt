use Rattle.mxf_views.proofs.Common.{arith, clear_notes}
use Rattle.mxf_views.proofs.SumLaws.{start_after}
use Rattle.mxf_views.proofs.kept.sums.Sums.copy_of.Goals as goal

pub counts-requires : goal.counts-requires
counts-requires c = grind (arith, start_after, clear_notes)
