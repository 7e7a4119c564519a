use Rattle.mxf_catalogue.proofs.Ranges.{offsets_rise}
use Rattle.mxf_catalogue.proofs.catalogue.placing.starting_below.Goals as goal

pub below-requires : goal.below-requires
below-requires c = offsets_rise _ c.requires
