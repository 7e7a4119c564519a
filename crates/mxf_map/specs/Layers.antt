-- What may lie in a cell of a map, each as a set of offsets: a cell that meets the set has one of them (this project's
-- profile).
use Rattle.std.specs.Prelude.{◌≡◌, ◌↔◌, ℕ, Bool, true, false, if◌then◌else◌, Option, None, Some, List, [], ◌∷◌, filter}
use Rattle.std.specs.Prelude.{map}
use Rattle.std.specs.Option.{option_and_then}
use Rattle.mxf_klv.specs.declared.kinds.Kind.{Kind}
use Rattle.mxf_klv.specs.declared.kinds.Kind.TheVariants as kinds
use Rattle.mxf_klv.specs.Parts.{NoteParts}
use Rattle.mxf_klv.specs.Note.{IsInSpan}
use Rattle.mxf_klv.specs.Kind.{kind_of}
use Rattle.mxf_klv.specs.Rising.{In}
use Rattle.mxf_sets.specs.declared.pack.part.PackPart.{PackPart}
use Rattle.mxf_sets.specs.declared.pack.part.PackPart.TheVariants as parts
use Rattle.mxf_catalogue.specs.declared.run.Run.{Run}
use Rattle.mxf_catalogue.specs.Disputes.{IsClear}
use Rattle.mxf_catalogue.specs.Runs.{LiesIn}
use Rattle.mxf_views.specs.Copies.{IsMetadataKind}
use Rattle.mxf_views.specs.Partitions.{PartitionParts, partitions_of}
use Rattle.mxf_places.specs.declared.claim.Claim.{Claim}
use Rattle.mxf_places.specs.declared.stretch.Zone.{Zone}
use Rattle.mxf_places.specs.declared.stretch.Zone.TheVariants as zones
use Rattle.mxf_map.specs.declared.map.Mark.{Mark}
use Rattle.mxf_map.specs.declared.map.Mark.TheVariants as marks
use Rattle.mxf_restore.specs.Missing.{is_missing, missing_places}
use Rattle.mxf_places.specs.Claims.{named_place}

-- The offsets in the runs are those for which this holds.
abbrev pub AreOffsets : (ℕ → Type 0) → List Run → Type 0
AreOffsets P runs = (x : ℕ) → LiesIn runs x ↔ P x

-- A partition of a part of the file begins at the offset.
abbrev pub BeginsPartition : List NoteParts → PackPart → ℕ → Type 0
BeginsPartition notes part x =
    (p : PartitionParts) × In p (partitions_of notes) × (p.pack.part ≡ part) × (p.offset ≡ x)

-- A clear random index pack does.
abbrev pub BeginsRandomIndex : List NoteParts → ℕ → Type 0
BeginsRandomIndex notes x = (n : NoteParts) × IsClear n notes × (kind_of n.key ≡ kinds.Rip) × (n.offset ≡ x)

-- The kinds of packets that a zone is made of.
abbrev pub IsOfZone : Zone → Kind → Type 0
IsOfZone zones.Metadata kind = IsMetadataKind kind
IsOfZone zones.Index kind = kind ≡ kinds.Segment

-- The offset lies in a clear packet of a zone.
abbrev pub LiesInZone : List NoteParts → Zone → ℕ → Type 0
LiesInZone notes zone x = (n : NoteParts) × IsClear n notes × IsOfZone zone (kind_of n.key) × IsInSpan n x

-- All of them.
pub record AreLayers (notes : List NoteParts) (headers footers bodies random_index missing metadata index : List Run)
    : Type 0 where
  pub headers_are : AreOffsets (BeginsPartition notes parts.Header) headers
  pub footers_are : AreOffsets (BeginsPartition notes parts.Footer) footers
  pub bodies_are : AreOffsets (BeginsPartition notes parts.Body) bodies
  pub random_index_is : AreOffsets (BeginsRandomIndex notes) random_index
  pub missing_is : AreOffsets (λ x. In x (missing_places notes)) missing
  pub metadata_is : AreOffsets (LiesInZone notes zones.Metadata) metadata
  pub index_is : AreOffsets (LiesInZone notes zones.Index) index

-- The same as tests and lists. Lemmas tie them to the relations above.

abbrev pub is_part : PackPart → PackPart → Bool
is_part parts.Header parts.Header = true
is_part parts.Body parts.Body = true
is_part parts.Footer parts.Footer = true
is_part _ _ = false

-- Where the partitions of a part begin.
abbrev pub partition_offsets : PackPart → List PartitionParts → List ℕ
partition_offsets part partitions = map (λ p. p.offset) (filter (λ p. is_part p.pack.part part) partitions)

abbrev pub is_random_index : Kind → Bool
is_random_index kinds.Rip = true
is_random_index _ = false

-- Where the random index packs begin.
abbrev pub random_index_offsets : List NoteParts → List ℕ
random_index_offsets notes = map (λ n. n.offset) (filter (λ n. is_random_index (kind_of n.key)) notes)

-- The packet is one of a zone.
abbrev pub is_of_zone : Zone → Kind → Bool
is_of_zone zones.Metadata kinds.Primer = true
is_of_zone zones.Metadata kinds.Preface = true
is_of_zone zones.Metadata kinds.Identification = true
is_of_zone zones.Metadata kinds.ContentStorage = true
is_of_zone zones.Metadata kinds.MaterialPackage = true
is_of_zone zones.Metadata kinds.SourcePackage = true
is_of_zone zones.Metadata kinds.RawSet = true
is_of_zone zones.Metadata _ = false
is_of_zone zones.Index kinds.Segment = true
is_of_zone zones.Index _ = false

-- Those of some notes whose packets a zone is made of.
abbrev pub zone_notes : Zone → List NoteParts → List NoteParts
zone_notes zone notes = filter (λ n. is_of_zone zone (kind_of n.key)) notes

-- The place that a claim names, if it is missing.
abbrev pub missing_place : List NoteParts → Claim → Option ℕ
missing_place notes c = option_and_then (λ x. if is_missing notes x then Some x else None) (named_place c)

-- The marks but the last, by rank.
abbrev pub marks_in_order : List Mark
marks_in_order =
    marks.Disputed ∷ marks.Header ∷ marks.Footer ∷ marks.Body ∷ marks.RandomIndex ∷ marks.Missing ∷ marks.Hand
    ∷ marks.Empty ∷ marks.Part ∷ marks.Metadata ∷ marks.Index ∷ []
