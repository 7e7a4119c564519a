use Rattle.mxf_sets.proofs.PackComputing.{rip_iff}
use Rattle.mxf_sets.proofs.pack.random_index.random_index_packs_are_read_by_their_places.Goals as goal

pub returns : goal.returns
returns c = rip_iff
