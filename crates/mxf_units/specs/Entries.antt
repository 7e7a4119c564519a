-- What index entries say of an edit unit (ST 377-1, Index Table Segment; what holds if segments disagree is this
-- project's profile).
use Rattle.std.specs.Prelude.{◌≡◌, ◌^◌, ◌<◌, ℕ, ℤ, pos, ◌+ℤ◌, Option, None, Some, List}
use Rattle.mxf_klv.specs.Parts.{NoteParts}
use Rattle.mxf_klv.specs.Rising.{In}
use Rattle.mxf_sets.specs.Offset.{index_entry}
use Rattle.mxf_sets.specs.declared.segment.offset.IndexEntry.{IndexEntry}
use Rattle.mxf_views.specs.Places.{SegmentAtParts, segments_of}

-- A segment of the index lists the unit with this entry.
pub record Lists (notes : List NoteParts) (index_sid unit : ℕ) (e : IndexEntry) : Type 0 where
  pub by : SegmentAtParts
  pub held : In by (segments_of notes)
  pub index : by.segment.numbers.index_sid ≡ index_sid
  pub entry : index_entry by.segment unit ≡ Some e

-- The entry of a unit: a segment of its index lists it so, and all that list it say the same TemporalOffset,
-- KeyFrameOffset and flags.
pub record IsEntryOf (notes : List NoteParts) (index_sid unit : ℕ) (e : IndexEntry) : Type 0 where
  pub listed : Lists notes index_sid unit e
  pub temporal : (d : IndexEntry) → Lists notes index_sid unit d → d.temporal_offset ≡ e.temporal_offset
  pub key_frame : (d : IndexEntry) → Lists notes index_sid unit d → d.key_frame_offset ≡ e.key_frame_offset
  pub flags : (d : IndexEntry) → Lists notes index_sid unit d → d.flags ≡ e.flags

-- A number lies at a distance from a unit.
abbrev pub LiesAt : ℕ → ℤ → ℕ → Type 0
LiesAt unit distance x = pos unit +ℤ distance ≡ pos x

-- The key frame at a distance from a unit; none if no number of a unit, below 2^64, lies there.
abbrev pub IsKeyFrame : ℕ → ℤ → Option ℕ → Type 0
IsKeyFrame unit distance (Some key) = LiesAt unit distance key × (key < 2 ^ 64)
IsKeyFrame unit distance None = (key : ℕ) → LiesAt unit distance key → key < 2 ^ 64 → ⊥
