-- What sources give of a file, byte by byte, and what of that is at hand (this project's profile).
use Rattle.std.specs.Prelude.{◌≡◌, ◌≢◌, ◌↔◌, ◌<◌, ◌≤◌, ℕ, ◌+◌, ◌-◌, List, [], ◌∷◌, ◌++◌, length, drop, take, map}
use Rattle.std.specs.Prelude.{IfSome, slice_get, Option, Some}
use Rattle.std.specs.List.{range_with_len}
use Rattle.mxf_klv.specs.Rising.{In}
use Rattle.mxf_catalogue.specs.declared.run.Run.{Run}
use Rattle.mxf_catalogue.specs.Covers.{IsCover}
use Rattle.mxf_catalogue.specs.Runs.{LiesIn}
use Rattle.mxf_hand.specs.declared.given.Extent.{Extent}
use Rattle.mxf_read.specs.declared.reading.Step.{Step}
use Rattle.mxf_read.specs.declared.reading.Step.TheVariants.{Took, Ended, Interrupted, Failed}

-- A source: the file offset of its first byte, and its bytes.
pub record SourceParts : Type 0 where
  pub offset : ℕ
  pub bytes : List ℕ

-- The source gives a byte at an offset.
pub record Gives (s : SourceParts) (x byte : ℕ) : Type 0 where
  pub from : s.offset ≤ x
  pub is : slice_get s.bytes (x - s.offset) ≡ Some byte

-- Some source gives this byte at the offset.
abbrev pub IsGivenAs : List SourceParts → ℕ → ℕ → Type 0
IsGivenAs sources x byte = (s : SourceParts) × In s sources × Gives s x byte

-- Some source gives a byte at the offset.
abbrev pub IsGiven : List SourceParts → ℕ → Type 0
IsGiven sources x = (byte : ℕ) × IsGivenAs sources x byte

-- Two sources give different bytes at the offset.
pub record Differ (sources : List SourceParts) (x : ℕ) : Type 0 where
  pub one : ℕ
  pub other : ℕ
  pub gives_one : IsGivenAs sources x one
  pub gives_other : IsGivenAs sources x other
  pub differs : one ≢ other

-- Sources differ around the offset: there, or at two offsets around it that are less than 512 apart.
pub record IsDiffering (sources : List SourceParts) (x : ℕ) : Type 0 where
  pub from : ℕ
  pub to : ℕ
  pub from_differs : Differ sources from
  pub to_differs : Differ sources to
  pub above : from ≤ x
  pub below : x ≤ to
  pub near : to < from + 512

-- The offset is at hand: some source gives its byte, and sources don't differ around it.
pub record IsAtHand (sources : List SourceParts) (x : ℕ) : Type 0 where
  pub given : IsGiven sources x
  pub alike : ¬ IsDiffering sources x

-- The offsets in the runs are those at hand.
pub record AreAtHand (sources : List SourceParts) (runs : List Run) : Type 0 where
  pub cover : IsCover runs
  pub offsets : (x : ℕ) → LiesIn runs x ↔ IsAtHand sources x

-- The function has the byte of each offset from one up to another that a source gives.
abbrev pub AreBytesOf : List SourceParts → (ℕ → ℕ) → ℕ → ℕ → Type 0
AreBytesOf sources byte from to = (x b : ℕ) → from ≤ x → x < to → IsGivenAs sources x b → byte x ≡ b

-- The bytes from an offset up to another.
abbrev pub bytes_between : (ℕ → ℕ) → ℕ → ℕ → List ℕ
bytes_between byte from to = map byte (range_with_len from (to - from))

-- The sources have these extents: each its own, in their order.
abbrev pub HaveExtents : List SourceParts → List Extent → Type 0
HaveExtents [] [] = Unit {0}
HaveExtents [] (e ∷ extents) = ⊥
HaveExtents (s ∷ sources) [] = ⊥
HaveExtents (s ∷ sources) (e ∷ extents) =
    (s.offset ≡ e.offset) × (length s.bytes ≡ e.size) × HaveExtents sources extents

-- What is told of sources is this, and they have these extents.
pub record AreTold (told : Option (List SourceParts)) (own : List Extent) (sources : List SourceParts) : Type 0 where
  pub is : told ≡ Some sources
  pub extents : HaveExtents sources own

-- The bytes stand after the first `position` in the source with this number.
abbrev pub StandAt : List SourceParts → ℕ → ℕ → List ℕ → Type 0
StandAt sources number position bytes =
    (s : SourceParts) × (more : List ℕ) × (slice_get sources number ≡ Some s)
    × (drop position s.bytes ≡ bytes ++ more)

-- One read of a source after `position` of its bytes: bytes were taken, and stand at the front of the room.
abbrev pub ReadsAt : Option (List SourceParts) → ℕ → ℕ → List ℕ → Step → Type 0
ReadsAt told number position room (Took n) =
    (0 < n) × (n ≤ length room) × IfSome told (λ sources. StandAt sources number position (take n room))
ReadsAt told number position room Ended = Unit {0}
ReadsAt told number position room Interrupted = Unit {0}
ReadsAt told number position room Failed = Unit {0}
