use Rattle.mxf_catalogue.proofs.CoverLaws.{ends_rise}
use Rattle.mxf_catalogue.proofs.cover.placing.ending_by.Goals as goal

pub up_to-requires : goal.up_to-requires
up_to-requires c = ends_rise 0 _ c.requires.maximal
