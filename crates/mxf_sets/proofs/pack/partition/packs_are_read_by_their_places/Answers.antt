use Rattle.mxf_sets.proofs.PackComputing.{pack_iff}
use Rattle.mxf_sets.proofs.pack.partition.packs_are_read_by_their_places.Goals as goal

pub returns : goal.returns
returns c = pack_iff
