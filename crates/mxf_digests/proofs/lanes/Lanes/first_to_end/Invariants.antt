use Rattle.std.proofs.Common.{◌≡◌, ◌≤◌, ◌<◌, ℕ, length, map, slice_index}
use Rattle.mxf_digests.specs.Queue.{left}
use Rattle.mxf_digests.proofs.lanes.Lanes.first_to_end.Given as goal

abbrev pub invariant-places : goal.invariant-places
invariant-places g l =
    let ms = map g.V.AsSlice.items l.values in
    record {
      place : l.first < 4;
      busy : slice_index l.self.value l.first < length l.values → l.least ≡ left ms l.self l.first;
      least : (j : ℕ) → j < l.place → slice_index l.self.value j < length l.values → l.least ≤ left ms l.self j;
    }
