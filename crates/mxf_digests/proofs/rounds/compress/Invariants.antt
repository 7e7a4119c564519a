use Rattle.std.proofs.Common.{◌≡◌, ℕ, [], ◌<◌, length, slice_index, slice_index_or, ◌*◌}
use Rattle.sha2.specs.Sha256.{IsRoundsAt, word_at}
use Rattle.mxf_digests.specs.Lanes.{block, lane}
use Rattle.mxf_digests.proofs.rounds.compress.Given as goal

abbrev pub invariant-load : goal.invariant-load
invariant-load l = (length l.window ≡ 16) × ((k : ℕ) → k < l.i → (j : ℕ) → j < 4
    → slice_index (slice_index_or l.window k []) j ≡ word_at (block l.blocks j) (4 * k))

abbrev pub invariant-schedule : goal.invariant-schedule
invariant-schedule l = (j : ℕ) → j < 4
    → IsRoundsAt (block l.blocks j) (lane j l.state) (lane j l.window) (lane j l.working)
    (16 * l.turn)
