-- First packets of essence, and where the essence of a partition lies (ST 377-1, Partition Pack; sureness is this
-- project's profile).
use Rattle.std.specs.Prelude.{◌≡◌, ◌↔◌, ℕ, ◌+◌, ◌<◌, ◌≤◌, ◌⊎◌, true, false, IsTrue, IsSome, Option, None, Some, List}
use Rattle.mxf_klv.specs.declared.kinds.Kind.TheVariants as kinds
use Rattle.mxf_klv.specs.Parts.{NoteParts}
use Rattle.mxf_klv.specs.Note.{end_of}
use Rattle.mxf_klv.specs.Kind.{kind_of}
use Rattle.mxf_klv.specs.Rising.{In}
use Rattle.mxf_catalogue.specs.Disputes.{IsDisputed}
use Rattle.mxf_views.specs.Partitions.{PartitionParts, StandsAt, partitions_of, previous_of}
use Rattle.mxf_views.specs.Places.{segments_of}
use Rattle.mxf_views.specs.RandomIndex.{RipAtParts}
use Rattle.mxf_views.specs.RandomIndexView.{rip_view_of}
use Rattle.mxf_views.specs.declared.random_index.RipView.TheVariants.{One}
use Rattle.mxf_places.specs.Held.{IsDisputedAt, IsHeld, end_of_file, is_in_file}
use Rattle.mxf_places.specs.Claims.{claims_of, named_place}
use Rattle.mxf_places.specs.Named.{AreSegments, IsBehindMetadata, IsOver}
use Rattle.mxf_places.specs.declared.claim.Claim.{Claim}
use Rattle.mxf_places.specs.declared.stretch.Stretch.{Stretch}
use Rattle.mxf_units.specs.declared.essence_zone.EssenceZone.{EssenceZone}
use Rattle.mxf_units.specs.Streams.{IsNext}

-- The note, whole or head, is one that shares no byte with another.
pub record IsAlone (notes : List NoteParts) (n : NoteParts) : Type 0 where
  pub held : In n notes
  pub undisputed : ¬ IsDisputed n notes

-- Where the bytes after the header metadata and the index table segments of a partition begin.
abbrev pub IsBehindIndex : List NoteParts → PartitionParts → ℕ → Type 0
IsBehindIndex notes p x =
    ((p.pack.numbers.index_byte_count ≡ 0) × IsBehindMetadata notes p x)
    ⊎ ((s : Stretch) × AreSegments notes p s × (s.is_open ≡ false) × (x ≡ s.end))

-- The packet stands after the header metadata and the index table segments of a partition and the fills there; it is
-- essence, or of a kind that isn't known.
pub record IsFirstPacket (notes : List NoteParts) (p : PartitionParts) (n : NoteParts) : Type 0 where
  pub from : ℕ
  pub behind : IsBehindIndex notes p from
  pub begins : IsOver notes from n.offset
  pub alone : IsAlone notes n
  pub kind : (kind_of n.key ≡ kinds.Essence) ⊎ (kind_of n.key ≡ kinds.Other)

-- All units of the partition lie in its first packet: this begins its stream, and the second unit begins inside.
pub record IsClipWrapped (notes : List NoteParts) (p : PartitionParts) (n : NoteParts) : Type 0 where
  pub kind : kind_of n.key ≡ kinds.Essence
  pub begins : p.pack.numbers.body_offset ≡ 0
  pub second : ℕ
  pub second_is : IsNext (segments_of notes) p.pack.numbers.body_sid 0 second
  pub inside : n.offset + second < end_of n

-- A head that shares no byte with another packet begins there.
abbrev pub BeginsHead : List NoteParts → ℕ → Type 0
BeginsHead notes x = (n : NoteParts) × IsAlone notes n × (n.whole ≡ false) × (n.offset ≡ x)

-- A pack names the place, which may lie in the file, and it isn't known whole what begins there.
pub record IsOpenPlace (notes : List NoteParts) (x : ℕ) : Type 0 where
  pub by : Claim
  pub claimed : In by (claims_of notes)
  pub named : named_place by ≡ Some x
  pub in_file : IsTrue (is_in_file notes x)
  pub unknown : (IsDisputedAt notes x ⊎ BeginsHead notes x) ⊎ ¬ IsHeld notes x

-- A partition stands at the place, or one may.
abbrev pub IsBound : List NoteParts → ℕ → Type 0
IsBound notes x = StandsAt (partitions_of notes) x ⊎ IsOpenPlace notes x

-- The only random index pack stands at the place, and the end of the file is known.
pub record IsRipPlace (notes : List NoteParts) (x : ℕ) : Type 0 where
  pub rip : RipAtParts
  pub only : rip_view_of notes ≡ One rip
  pub ended : IsSome (end_of_file notes)
  pub offset : rip.offset ≡ x

-- The least place above the partition where another stands or may stand; without one, where the random index pack does.
abbrev pub IsLimit : List NoteParts → PartitionParts → Option ℕ → Type 0
IsLimit notes p (Some limit) =
    (IsBound notes limit × (p.offset < limit) × ((x : ℕ) → IsBound notes x → p.offset < x → limit ≤ x))
    ⊎ (((x : ℕ) → IsBound notes x → x ≤ p.offset) × IsRipPlace notes limit)
IsLimit notes p None = ((x : ℕ) → IsBound notes x → x ≤ p.offset) × ((x : ℕ) → ¬ IsRipPlace notes x)

-- There is a limit, and there is only one random index pack, which can be read, or a partition stands at the limit that
-- names this one as the one before it.
pub record IsSure (notes : List NoteParts) (p : PartitionParts) (limit : Option ℕ) : Type 0 where
  pub at : ℕ
  pub at_is : limit ≡ Some at
  pub told : ((rip : RipAtParts) × (rip_view_of notes ≡ One rip))
      ⊎ ((q : PartitionParts) × In q (partitions_of notes) × (q.offset ≡ at) × (previous_of q ≡ p.offset))

-- Where the essence of the partition lies that begins with the packet.
pub record IsEssenceZone (notes : List NoteParts) (p : PartitionParts) (n : NoteParts) (zone : EssenceZone)
    : Type 0 where
  pub clip : IsClipWrapped notes p n
      → zone ≡ record { body_offset = 0; origin = n.offset + 16 + n.width; limit = Some (end_of n); is_sure = true }
  pub body_offset : zone.body_offset ≡ p.pack.numbers.body_offset
  pub origin : (¬ IsClipWrapped notes p n) → zone.origin ≡ n.offset
  pub limit : (¬ IsClipWrapped notes p n) → IsLimit notes p zone.limit
  pub sure : (¬ IsClipWrapped notes p n) → IsTrue zone.is_sure ↔ IsSure notes p zone.limit
