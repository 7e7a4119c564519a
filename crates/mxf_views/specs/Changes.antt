-- A change of a content within a range, and the copies of the header metadata that it leaves (this project's profile).
use Rattle.std.specs.Prelude.{◌≡◌, ℕ, ◌+◌, ◌<◌, ◌≤◌, ◌⊎◌, List, None, Some, true}
use Rattle.mxf_klv.specs.Parts.{NoteParts}
use Rattle.mxf_klv.specs.Note.{end_of}
use Rattle.mxf_klv.specs.Rising.{In}
use Rattle.mxf_catalogue.specs.Disputes.{IsClear, clear_notes}
use Rattle.mxf_views.specs.Copies.{is_fill_note, is_readable_primer, start_of}
use Rattle.mxf_views.specs.Partitions.{PartitionParts, partitions_of}

-- The packet of the note lies wholly in the range.
abbrev pub LiesWithin : ℕ → ℕ → NoteParts → Type 0
LiesWithin start end n = (start ≤ n.offset) × (end_of n ≤ end)

-- What is clear before or after, but not both, lies in the range; and what is clear after doesn't lie across its start.
pub record SameOutside (start end : ℕ) (before after : List NoteParts) : Type 0 where
  pub gone : (n : NoteParts) → IsClear n before → IsClear n after ⊎ LiesWithin start end n
  pub come : (n : NoteParts) → IsClear n after → IsClear n before ⊎ LiesWithin start end n
  pub cut : (n : NoteParts) → IsClear n after → (end_of n ≤ start) ⊎ (start ≤ n.offset)

-- A change in the range doesn't reach the copy of the partition: the range ends by the end of the partition's pack; or
-- the copy has a zone, which ends by the start of the range; or it has no start, and no fill and no readable primer
-- comes, or the range begins after the pack with no start, or a partition stands between the two, which no start
-- passes.
pub data IsUnmet (start end : ℕ) (before after : List NoteParts) (p : PartitionParts) : Type 0 where
  behind : end ≤ p.end → IsUnmet start end before after p
  ended : (zone : ℕ) → start_of p.end (clear_notes before) ≡ Some zone → zone + p.pack.numbers.header_byte_count ≤ start
      → IsUnmet start end before after p
  none_comes : start_of p.end (clear_notes before) ≡ None
      → ((n : NoteParts) → IsClear n after → (is_fill_note n ≡ true) ⊎ (is_readable_primer n ≡ true) → IsClear n before)
      → IsUnmet start end before after p
  none_begins : start_of p.end (clear_notes before) ≡ None → p.end ≤ start → start_of start (clear_notes after) ≡ None
      → IsUnmet start end before after p
  shut_off : start_of p.end (clear_notes before) ≡ None → (q : PartitionParts) → In q (partitions_of before)
      → p.offset < q.offset → q.end ≤ start → IsUnmet start end before after p
