use Rattle.mxf_doubts.proofs.KeyLaws.{keys_of}
use Rattle.mxf_doubts.proofs.strange.sorted.Goals as goal

pub returns : goal.returns
returns c =
    keys_of _ _ _ c.in_ok-keys.ensures c.sort_unstable.ensures.permutation c.sort_unstable.ensures.sorted
