use Rattle.mxf_klv.proofs.RisingBy.{by_itself, never_falls}
use Rattle.mxf_restore.proofs.section.count_below.Goals as goal

pub below-requires : goal.below-requires
below-requires c = never_falls (λ x. x) c.args.cuts.now (by_itself c.args.cuts.now c.requires)
