-- How far the OFFSET of a source is from the one that its partition packs say (this project's profile).
use Rattle.std.specs.Prelude.{◌≡◌, ℕ, ◌+◌, ◌<◌, ◌==◌, Bool, true, Option, None, Some, List, [], ◌∷◌, length}
use Rattle.std.specs.List.{list_all}
use Rattle.mxf_klv.specs.Parts.{NoteParts}
use Rattle.mxf_views.specs.Partitions.{PartitionParts, partitions_of}
use Rattle.mxf_hints.specs.declared.shift.Shift.{Shift}
use Rattle.mxf_hints.specs.declared.shift.Shift.TheVariants.{High, Low}

-- How many bytes a shift has.
abbrev pub shifted_bytes : Shift → ℕ
shifted_bytes (High bytes) = bytes
shifted_bytes (Low bytes) = bytes

-- A partition lies that far after the offset that its pack states as its own (ST 377-1, ThisPartition), or before it.
abbrev pub is_shifted : Shift → PartitionParts → Bool
is_shifted (High bytes) p = p.offset == p.pack.numbers.this_partition + bytes
is_shifted (Low bytes) p = p.offset + bytes == p.pack.numbers.this_partition

-- There are partitions, and all of them are shifted by the same number of bytes, which isn't 0.
pub record IsShift (partitions : List PartitionParts) (s : Shift) : Type 0 where
  pub some : 0 < length partitions
  pub agreed : list_all (is_shifted s) partitions ≡ true
  pub other : 0 < shifted_bytes s

-- What is known of the shift of a content: the shift of its partitions, or that they have none.
abbrev pub IsShiftIn : List NoteParts → Option Shift → Type 0
IsShiftIn notes None = (s : Shift) → IsShift (partitions_of notes) s → ⊥
IsShiftIn notes (Some s) = IsShift (partitions_of notes) s

-- The same of each of several contents.
abbrev pub AreShifts : List (List NoteParts) → List (Option Shift) → Type 0
AreShifts [] [] = Unit {0}
AreShifts [] (s ∷ shifts) = ⊥
AreShifts (c ∷ contents) [] = ⊥
AreShifts (c ∷ contents) (s ∷ shifts) = IsShiftIn c s × AreShifts contents shifts
