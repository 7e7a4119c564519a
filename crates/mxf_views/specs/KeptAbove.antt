-- What the views keep once notes are there that begin where the others end, or above (this project's profile).
use Rattle.std.specs.Prelude.{◌≡◌, ℕ, ◌+◌, ◌-◌, ◌<◌, ◌≤◌, ◌^◌, ◌⊎◌, Bool, false, ◌==◌, if◌then◌else◌, Option, None}
use Rattle.std.specs.Prelude.{Some, List, find}
use Rattle.std.specs.List.{AllWithin}
use Rattle.mxf_klv.specs.Parts.{NoteParts}
use Rattle.mxf_klv.specs.Rising.{In}
use Rattle.mxf_catalogue.specs.Content.{union_of}
use Rattle.mxf_catalogue.specs.Disputes.{clear_notes}
use Rattle.mxf_views.specs.declared.copy.CopyInfo.{CopyInfo}
use Rattle.mxf_views.specs.Copies.{copies_of, covered_of, prefaces_of, start_of, zone_of}
use Rattle.mxf_views.specs.Kept.{MeetAt, or_itself}

-- The content is the union of two that meet at the boundary.
pub record IsUnionAt (boundary : ℕ) (notes own : List NoteParts) : Type 0 where
  pub other : List NoteParts
  pub meet : MeetAt boundary own other
  pub union : notes ≡ union_of own other

-- The clear notes from the boundary on: no packet ends above all offsets of 64 bits.
abbrev pub clear_from : ℕ → List NoteParts → List NoteParts
clear_from boundary notes = zone_of boundary 18446744073709551615 (clear_notes notes)

-- The bytes of the zone from the boundary on.
abbrev pub bytes_above : ℕ → CopyInfo → ℕ → ℕ
bytes_above boundary c start = c.bytes - (boundary - start)

-- The copy with that many more bytes covered, and that many more Prefaces.
abbrev pub with_counts : CopyInfo → ℕ → ℕ → CopyInfo
with_counts c covered prefaces = record {
  partition = c.partition;
  start = c.start;
  bytes = c.bytes;
  covered = c.covered + covered;
  finished = c.covered + covered == c.bytes;
  prefaces = c.prefaces + prefaces;
  status = c.status;
}

-- What lies in its zone from the boundary on is counted as well.
abbrev pub counted_on : List NoteParts → ℕ → CopyInfo → ℕ → CopyInfo
counted_on notes boundary c start =
    let bytes = bytes_above boundary c start in
    if bytes == 0 then c
    else with_counts c (covered_of boundary bytes (clear_notes notes)) (prefaces_of boundary bytes (clear_notes notes))

abbrev pub is_of : ℕ → Option ℕ → Bool
is_of partition None = false
is_of partition (Some other) = other == partition

-- A copy without a start is counted anew if it is that of the partition that can get one.
abbrev pub started : List NoteParts → Option ℕ → CopyInfo → CopyInfo
started notes starting c =
    if is_of c.partition starting then or_itself c (find (λ d. d.partition == c.partition) (copies_of notes)) else c

-- The copy once the notes from the boundary on are there.
abbrev pub counted_above : List NoteParts → ℕ → Option ℕ → CopyInfo → Option ℕ → CopyInfo
counted_above notes boundary starting c (Some start) = counted_on notes boundary c start
counted_above notes boundary starting c None = started notes starting c

-- No other copy can get a start by the notes from the boundary on: they begin with no start, or there is a copy after
-- it.
abbrev pub IsStarting : List NoteParts → ℕ → List CopyInfo → Option ℕ → Type 0
IsStarting notes boundary copies starting =
    (c : CopyInfo) → In c copies → is_of c.partition starting ≡ false
    → (start_of boundary (clear_notes notes) ≡ None) ⊎ ((d : CopyInfo) × In d copies × (c.partition < d.partition))

-- The counts of the copy with what lies in its zone from the boundary on are no more than they can be.
pub record CountsFit (notes : List NoteParts) (boundary : ℕ) (c : CopyInfo) (start : ℕ) : Type 0 where
  pub covered : c.covered + covered_of boundary (bytes_above boundary c start) (clear_notes notes) ≤ c.bytes
  pub prefaces : c.prefaces + prefaces_of boundary (bytes_above boundary c start) (clear_notes notes) < 2 ^ 64

-- The zone of the copy, if it has a start, ends at the offset or below.
abbrev pub EndsBy : ℕ → CopyInfo → Type 0
EndsBy offset c = (start : ℕ) → c.start ≡ Some start → start + c.bytes ≤ offset

-- The partition is that of none of the first copies.
abbrev pub IsOfNone : List CopyInfo → ℕ → Option ℕ → Type 0
IsOfNone copies count partition = AllWithin (λ c. is_of c.partition partition ≡ false) copies 0 count
