use Rattle.mxf_find.proofs.RankingLaws.{all_ranked, any_order}
use Rattle.mxf_find.proofs.ranking.rankings_by_definition.Goals as goal

pub returns : goal.returns
returns c = record { first = all_ranked; order = any_order }
