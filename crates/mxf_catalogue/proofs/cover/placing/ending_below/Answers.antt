use Rattle.mxf_catalogue.proofs.CoverLaws.{ends_rise}
use Rattle.mxf_catalogue.proofs.cover.placing.ending_below.Goals as goal

pub below-requires : goal.below-requires
below-requires c = ends_rise 0 _ c.requires.maximal
