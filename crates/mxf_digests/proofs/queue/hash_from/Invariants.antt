use Rattle.std.proofs.Common.{◌≡◌, ◌<◌, ℕ, [], length, map, slice_index_or}
use Rattle.mxf_digests.specs.Queue.{message}
use Rattle.sha2.specs.Sha256.{sha256}
use Rattle.mxf_digests.proofs.queue.hash_from.Given as goal

abbrev pub invariant-values : goal.invariant-values
invariant-values g l =
    let ms = map g.V.AsSlice.items l.values in
    record {
      long : length l.digests ≡ length l.values;
      hashed : (i : ℕ) → i < l.index → slice_index_or l.digests i [] ≡ sha256 (message ms i);
    }
