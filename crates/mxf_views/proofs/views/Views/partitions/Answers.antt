use Rattle.mxf_views.proofs.Common.{◌∙◌, ap, KeptParts, partitions_of}
use Rattle.mxf_views.proofs.views.Views.partitions.Goals as goal

pub of-requires : goal.of-requires
of-requires c = c.deref.ensures.value ∙ ap (λ (k : KeptParts). k.partitions) c.self.invariant

pub returns-clause-partitions : goal.returns-clause-partitions
returns-clause-partitions c = c.of.ensures.partitions ∙ ap partitions_of c.self.view_is
