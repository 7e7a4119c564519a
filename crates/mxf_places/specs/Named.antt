-- What packs say of places, as relations (ST 377-1, Partition Pack and Random Index Pack; reasons and stretches are
-- this project's profile). Laws tie the functions of Claims to them.
use Rattle.std.specs.Prelude.{◌≡◌, ◌≢◌, ℕ, ◌+◌, ◌<◌, ◌⊎◌, true, false, IsTrue, None, Some, List, [], ◌∷◌}
use Rattle.mxf_klv.specs.Parts.{NoteParts}
use Rattle.mxf_klv.specs.Note.{end_of, greatest_end}
use Rattle.mxf_klv.specs.Kind.{kind_of}
use Rattle.mxf_klv.specs.Rising.{In}
use Rattle.mxf_klv.specs.declared.kinds.Kind.TheVariants as kinds
use Rattle.mxf_sets.specs.PackReadings.{primer_at}
use Rattle.mxf_sets.specs.declared.pack.random_index.RipEntry.{RipEntry}
use Rattle.mxf_catalogue.specs.Disputes.{IsDisputed}
use Rattle.mxf_views.specs.Partitions.{PartitionParts, partitions_of}
use Rattle.mxf_views.specs.RandomIndex.{RipAtParts}
use Rattle.mxf_views.specs.RandomIndexView.{rip_view_of}
use Rattle.mxf_views.specs.Readings.{IsReadable}
use Rattle.mxf_views.specs.declared.random_index.RipView.TheVariants.{One}
use Rattle.mxf_views.specs.declared.random_index.Standing.{Standing}
use Rattle.mxf_places.specs.Claims.{place_claim, stretch_claim}
use Rattle.mxf_places.specs.Held.{IsDisputedAt, IsEndOfFile, IsHeld}
use Rattle.mxf_places.specs.declared.claim.Claim.{Claim}
use Rattle.mxf_places.specs.declared.reason.Reason.{Reason}
use Rattle.mxf_places.specs.declared.reason.Reason.TheVariants.{Header, Footer, Metadata, Index, Entry, Previous, Gap}
use Rattle.mxf_places.specs.declared.reason.Reason.TheVariants as reasons
use Rattle.mxf_places.specs.declared.stretch.Stretch.{Stretch}
use Rattle.mxf_places.specs.declared.stretch.Zone.{Zone}
use Rattle.mxf_places.specs.declared.stretch.Zone.TheVariants as zones

-- A packet, whole or head, that shares no byte with another begins at an offset.
pub record StandsAlone (notes : List NoteParts) (n : NoteParts) (at : ℕ) : Type 0 where
  pub held : In n notes
  pub undisputed : IsDisputed n notes → ⊥
  pub offset : n.offset ≡ at

-- The packets follow one another from an offset up to another, without a byte between.
abbrev pub Follow : List NoteParts → ℕ → ℕ → Type 0
Follow [] from to = from ≡ to
Follow (n ∷ packets) from to = (n.offset ≡ from) × Follow packets (end_of n) to

-- By going on over the fills that begin at an offset, one comes to another, where none begins.
pub record IsOver (notes : List NoteParts) (from to : ℕ) : Type 0 where
  pub fills : List NoteParts
  pub are : (n : NoteParts) → In n fills → (kind_of n.key ≡ kinds.Fill) × StandsAlone notes n n.offset
  pub follow : Follow fills from to
  pub last : (n : NoteParts) → StandsAlone notes n to → kind_of n.key ≢ kinds.Fill

-- The packet begins the zone: header metadata begin with a primer pack, a whole one being readable, and index table
-- segments with one.
abbrev pub Begins : Zone → NoteParts → Type 0
Begins zones.Metadata n = (kind_of n.key ≡ kinds.Primer) × (IsTrue n.whole → IsReadable primer_at n)
Begins zones.Index n = kind_of n.key ≡ kinds.Segment

-- The offset may lie in the file.
pub record IsInFile (notes : List NoteParts) (x : ℕ) : Type 0 where
  pub below : x < greatest_end
  pub before : (end : ℕ) → IsEndOfFile notes end → x < end

-- It isn't known what begins there.
pub record IsUnknown (notes : List NoteParts) (x : ℕ) : Type 0 where
  pub in_file : IsInFile notes x
  pub why : IsDisputedAt notes x ⊎ (IsHeld notes x → ⊥)

-- A stretch of a given number of bytes, counted from the first packet after the fills, which begins the zone.
pub record IsCounted (zone : Zone) (notes : List NoteParts) (from count : ℕ) (s : Stretch) : Type 0 where
  pub first : NoteParts
  pub over : IsOver notes from first.offset
  pub alone : StandsAlone notes first first.offset
  pub begins : Begins zone first
  pub is : s ≡ record { from = from; end = first.offset + count; is_open = false }

-- A stretch up to the first byte after the fills, at which it isn't known what begins.
pub record IsOpen (notes : List NoteParts) (from : ℕ) (s : Stretch) : Type 0 where
  pub at : ℕ
  pub over : IsOver notes from at
  pub none : (n : NoteParts) → StandsAlone notes n at → ⊥
  pub unknown : IsUnknown notes at
  pub is : s ≡ record { from = from; end = at + 1; is_open = true }

abbrev pub IsStretch : Zone → List NoteParts → ℕ → ℕ → Stretch → Type 0
IsStretch zone notes from count s = IsCounted zone notes from count s ⊎ IsOpen notes from s

-- The header metadata of a partition.
abbrev pub AreMetadata : List NoteParts → PartitionParts → Stretch → Type 0
AreMetadata notes p s =
    let count = p.pack.numbers.header_byte_count in (0 < count) × IsStretch zones.Metadata notes p.end count s

-- Where the bytes after the header metadata begin.
abbrev pub IsBehindMetadata : List NoteParts → PartitionParts → ℕ → Type 0
IsBehindMetadata notes p x =
    ((p.pack.numbers.header_byte_count ≡ 0) × (x ≡ p.end))
    ⊎ ((s : Stretch) × AreMetadata notes p s × (s.is_open ≡ false) × (x ≡ s.end))

-- The index table segments of a partition.
abbrev pub AreSegments : List NoteParts → PartitionParts → Stretch → Type 0
AreSegments notes p s =
    let count = p.pack.numbers.index_byte_count in
    (0 < count) × ((x : ℕ) × IsBehindMetadata notes p x × IsStretch zones.Index notes x count s)

abbrev pub IsZone : Zone → List NoteParts → PartitionParts → Stretch → Type 0
IsZone zones.Metadata notes p s = AreMetadata notes p s
IsZone zones.Index notes p s = AreSegments notes p s

-- The claim is that of a stretch.
abbrev pub IsOfStretch : Claim → Type 0
IsOfStretch c = (c.reason ≡ Metadata) ⊎ (c.reason ≡ Index)

-- The claim names the place.
abbrev pub Names : Claim → ℕ → Type 0
Names c x = (IsOfStretch c → ⊥) × (c.from ≡ x)

-- A partition pack says it, with its offset as the source.
abbrev pub SaysPlace : List NoteParts → Reason → (PartitionParts → ℕ → Type 0) → Claim → Type 0
SaysPlace notes reason Names c =
    (p : PartitionParts) × In p (partitions_of notes) × ((place : ℕ) × Names p place
    × (c ≡ place_claim reason (Some p.offset) place))

abbrev pub SaysZone : List NoteParts → Reason → Zone → Claim → Type 0
SaysZone notes reason zone c =
    (p : PartitionParts) × In p (partitions_of notes) × ((s : Stretch) × IsZone zone notes p s
    × (c ≡ stretch_claim reason p s))

-- The pack names a footer partition above it.
abbrev pub NamesFooter : PartitionParts → ℕ → Type 0
NamesFooter p place = (place ≡ p.pack.numbers.footer_partition) × (p.offset < place)

-- The pack names a partition before it.
abbrev pub NamesPrevious : PartitionParts → ℕ → Type 0
NamesPrevious p place = (place ≡ p.pack.numbers.previous_partition) × (0 < place) × (place < p.offset)

-- An entry of the only random index pack says it.
abbrev pub SaysEntry : List NoteParts → Claim → Type 0
SaysEntry notes c =
    (r : RipAtParts) × (rip_view_of notes ≡ One r)
    × ((e : RipEntry × Standing) × In e r.entries × (e.0.offset ≢ 0)
    × (c ≡ place_claim Entry (Some r.offset) e.0.offset))

-- What is claimed for a reason: the header partition stands at 0, whatever packs say.
abbrev pub IsClaimFor : Reason → List NoteParts → Claim → Type 0
IsClaimFor Header notes c = c ≡ place_claim Header None 0
IsClaimFor Footer notes c = SaysPlace notes Footer NamesFooter c
IsClaimFor Metadata notes c = SaysZone notes Metadata zones.Metadata c
IsClaimFor Index notes c = SaysZone notes Index zones.Index c
IsClaimFor Entry notes c = SaysEntry notes c
IsClaimFor Previous notes c = SaysPlace notes Previous NamesPrevious c
IsClaimFor Gap notes c = ⊥
IsClaimFor reasons.Front notes c = ⊥
IsClaimFor reasons.Unit notes c = ⊥

abbrev pub IsClaim : List NoteParts → Claim → Type 0
IsClaim notes c = IsClaimFor c.reason notes c
