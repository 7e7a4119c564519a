use Rattle.mxf_find.specs.RankOrder.{rank_cmp-IsAntisymmetric}
use Rattle.mxf_find.proofs.ranking.Ranking.add.Goals as goal

pub sort_once-requires : goal.sort_once-requires
sort_once-requires c = rank_cmp-IsAntisymmetric
