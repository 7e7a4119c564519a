use Rattle.std.proofs.Common.{arith}
use Rattle.mxf_digests.proofs.QueueLemmas.{all_hashed}
use Rattle.mxf_digests.proofs.queue.hash_from.Goals as goal

pub returns : goal.returns
returns g c =
    all_hashed g.V.AsSlice.items c.args.values.now c.values.digests c.values.invariant.long
    (λ i small. c.values.invariant.hashed i (omega arith))
