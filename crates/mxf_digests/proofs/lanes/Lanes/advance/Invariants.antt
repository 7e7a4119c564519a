use Rattle.std.proofs.Common.{◌≡◌, ◌+◌, ◌≤◌, ◌<◌, ℕ, map, slice_index}
use Rattle.sha2.specs.Sha256.{hash_after, initial_hash_256, padded_message}
use Rattle.mxf_digests.specs.Blocks.{block_count}
use Rattle.mxf_digests.specs.Lanes.{lane}
use Rattle.mxf_digests.specs.Queue.{HasTaken, message}
use Rattle.mxf_digests.proofs.lanes.Lanes.advance.Given as goal

abbrev pub invariant-steps : goal.invariant-steps
invariant-steps g l =
    let ms = map g.V.AsSlice.items l.values in
    (j : ℕ) → j < 4 → slice_index l.done j + l.steps ≤ block_count (message ms (slice_index l.fn.self.value j))
    → HasTaken (message ms (slice_index l.fn.self.value j)) (slice_index l.done j) (lane j l.fn.state)
    → lane j l.state ≡ hash_after initial_hash_256 (padded_message (message ms (slice_index l.fn.self.value j)))
    (slice_index l.done j + l.step)
