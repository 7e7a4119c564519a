-- What is kept of a content, once notes are there that begin where the others end, or above.
use Rattle.mxf_views.proofs.Common.{◌≡◌, ◌+◌, ◌++◌, ◌<◌, ◌≤◌, ℕ, Bool, List, Option, Some, arith}
use Rattle.mxf_views.proofs.Common.{count_by, filter_map, NoteParts, clear_notes, end_of, PartitionParts, clear_from}
use Rattle.mxf_views.proofs.Common.{IsUnionAt, kept_among, kept_partition, In, In-at, In-filter, In-filter_map}
use Rattle.mxf_views.proofs.Common.{and_parts, get_or, leb-true, length, lies_in, nat_le}
use Rattle.mxf_views.proofs.CopyUpdates.{end-partition_at}
use Rattle.mxf_views.proofs.AboveLaws.{count_of_both, taken_of_both}

-- The notes from the boundary on begin at or above it.
from_boundary : (b : ℕ) (notes : List NoteParts) (n : NoteParts) → In n (clear_from b notes) → b ≤ n.offset
from_boundary b notes n h =
    let t = ((In-filter (lies_in b 18446744073709551615) (clear_notes notes) n).0 h).1 in
    leb-true b n.offset (and_parts (nat_le b n.offset) (nat_le (end_of n) (b + 18446744073709551615)) t).0

end-kept_partition : (n : NoteParts) (p : PartitionParts) → kept_partition n ≡ Some p → p.end ≡ end_of n
end-kept_partition n p e = grind (arith, end-partition_at)

module _ (b : ℕ) (notes own : List NoteParts) (u : IsUnionAt b notes own) where
  -- What is kept of the new notes follows what was kept before.
  pub kept_above : {A : Type 0} (take : NoteParts → Option A) (xs : List A) → xs ≡ kept_among take own
      → xs ++ filter_map take (clear_from b notes) ≡ kept_among take notes
  kept_above take xs same = grind (arith, filter_map, clear_from, kept_among, taken_of_both)

  -- The packs of the new partitions end above the boundary.
  pub ends_above_at : (k : ℕ) (d : PartitionParts) → 0 ≤ k → k < length (filter_map kept_partition (clear_from b notes))
      → b ≤ (get_or (filter_map kept_partition (clear_from b notes)) k d).end
  ends_above_at k d z l =
      let new = clear_from b notes in
      let p = get_or (filter_map kept_partition new) k d in
      let s = (In-filter_map kept_partition new p).0 (In-at (filter_map kept_partition new) k d l) in
      let low = from_boundary b notes s.0 s.1 in
      let end = end-kept_partition s.0 p s.2 in
      omega (arith, low, end)

  pub count_at : (test : NoteParts → Bool)
      → count_by test (clear_notes notes) ≡ count_by test (clear_notes own) + count_by test (clear_from b notes)
  count_at test = grind (arith, count_by, clear_notes, clear_from, count_of_both)
