-- The numbers so far, and those to come, are those before with those of all items.
use Rattle.std.proofs.Common.{◌≡◌, ◌||◌, List, ℕ, filter_map, nat_cmp, bytes_eq}
use Rattle.std.specs.BTreeSet.{contains}
use Rattle.std.specs.Cmp.Lexicographic.{slice_cmp}
use Rattle.std.specs.List.{list_any}
use Rattle.mxf_doubts.specs.Tracks.{track_number}
use Rattle.mxf_doubts.proofs.tracks.add_numbers.Given as goal

abbrev pub invariant-loop-item : goal.invariant-loop-item
invariant-loop-item l = (number : List ℕ) →
    (contains (slice_cmp nat_cmp) l.numbers number || list_any (bytes_eq number) (filter_map track_number l.item-iterator))
    ≡ (contains (slice_cmp nat_cmp) l.fn.numbers number || list_any (bytes_eq number) (filter_map track_number l.fn.items))
