-- Where the way from a partition pack to its essence ends, step by step (ST 377-1, Partition Pack: header metadata,
-- then index table segments, then essence, and fills between; where a way ends is this project's profile).
use Rattle.std.specs.Prelude.{◌≡◌, ℕ, ◌<◌, ◌≤◌, false, List}
use Rattle.mxf_klv.specs.Kind.{kind_of}
use Rattle.mxf_klv.specs.Note.{end_of}
use Rattle.mxf_klv.specs.Parts.{NoteParts}
use Rattle.mxf_klv.specs.declared.kinds.Kind.TheVariants.{Fill}
use Rattle.mxf_views.specs.Partitions.{PartitionParts}
use Rattle.mxf_places.specs.Held.{IsHeld}
use Rattle.mxf_places.specs.Named.{AreMetadata, AreSegments, IsCounted, IsInFile, IsOver, IsUnknown, StandsAlone}
use Rattle.mxf_places.specs.declared.stretch.Stretch.{Stretch}
use Rattle.mxf_places.specs.declared.stretch.Zone.{Zone}
use Rattle.mxf_places.specs.declared.stretch.Zone.TheVariants.{Index, Metadata}

-- The way goes on past what a pack counts from an offset on: if it counts no byte, it stays there; else it goes over
-- the fills there, and over as many bytes from the packet on with which that begins.
pub data GoesPast (zone : Zone) (notes : List NoteParts) (from count to : ℕ) : Type 0 where
  Nothing : count ≡ 0 → to ≡ from → GoesPast zone notes from count to
  Counted : 0 < count → (s : Stretch) → IsCounted zone notes from count s → to ≡ s.end
      → GoesPast zone notes from count to

-- The way stops before what a pack counts from an offset on: at the end of the fills there, where it isn't known what
-- begins.
pub record StopsAt (notes : List NoteParts) (from count x : ℕ) : Type 0 where
  pub counts : 0 < count
  pub over : IsOver notes from x
  pub none : (n : NoteParts) → ¬ StandsAlone notes n x
  pub unknown : IsUnknown notes x

-- The way from a pack ends at the offset: before its header metadata; past these and before its index table segments;
-- or past both, at the end of the fills there.
pub data IsWayEnd (notes : List NoteParts) (p : PartitionParts) (x : ℕ) : Type 0 where
  BeforeMetadata : StopsAt notes p.end p.pack.numbers.header_byte_count x → IsWayEnd notes p x
  BeforeIndex : (index : ℕ) → GoesPast Metadata notes p.end p.pack.numbers.header_byte_count index
      → StopsAt notes index p.pack.numbers.index_byte_count x → IsWayEnd notes p x
  BehindIndex : (index behind : ℕ) → GoesPast Metadata notes p.end p.pack.numbers.header_byte_count index
      → GoesPast Index notes index p.pack.numbers.index_byte_count behind → IsOver notes behind x
      → IsWayEnd notes p x

-- The way goes on at the offset over what isn't held.
pub record GoesOnAt (notes : List NoteParts) (p : PartitionParts) (x : ℕ) : Type 0 where
  pub end : IsWayEnd notes p x
  pub in_file : IsInFile notes x
  pub free : ¬ IsHeld notes x

-- The byte is one of the way from a pack: of its header metadata, of its index table segments, or of a fill.
pub data IsOnWay (notes : List NoteParts) (p : PartitionParts) (x : ℕ) : Type 0 where
  OfMetadata : (s : Stretch) → AreMetadata notes p s → s.is_open ≡ false → s.from ≤ x → x < s.end → IsOnWay notes p x
  OfIndex : (s : Stretch) → AreSegments notes p s → s.is_open ≡ false → s.from ≤ x → x < s.end → IsOnWay notes p x
  OfFill : (n : NoteParts) → StandsAlone notes n n.offset → kind_of n.key ≡ Fill → n.offset ≤ x → x < end_of n
      → IsOnWay notes p x
