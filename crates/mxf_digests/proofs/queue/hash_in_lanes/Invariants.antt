use Rattle.std.proofs.Common.{◌≡◌, ◌≤◌, ◌<◌, ℕ, length, map, slice_index}
use Rattle.mxf_digests.specs.Queue.{IsHashing}
use Rattle.mxf_digests.proofs.queue.hash_in_lanes.Given as goal

abbrev pub invariant-places : goal.invariant-places
invariant-places g l = record {
  values : length l.lanes.value ≡ 4;
  counts : length l.lanes.done ≡ 4;
  hashing : IsHashing (map g.V.AsSlice.items l.values) l.lanes l.state l.next l.digests;
  idle : (j : ℕ) → l.place ≤ j → j < 4 → slice_index l.lanes.value j ≡ length l.values;
}

abbrev pub invariant-ends : goal.invariant-ends
invariant-ends g l = IsHashing (map g.V.AsSlice.items l.values) l.lanes l.state l.next l.digests
