-- What each code of a finding says of the notes (this project's profile).
use Rattle.std.specs.Prelude.{◌≡◌, ◌≢◌, ℕ, ◌+◌, ◌<◌, ◌⊎◌, IsTrue, false, Some, None, List, [], map}
use Rattle.mxf_klv.specs.declared.kinds.Kind.{Kind}
use Rattle.mxf_klv.specs.declared.kinds.Kind.TheVariants as kinds
use Rattle.mxf_klv.specs.declared.kinds.Status.{Status}
use Rattle.mxf_klv.specs.declared.kinds.Status.TheVariants.{OpenIncomplete, OpenComplete}
use Rattle.mxf_klv.specs.Parts.{NoteParts}
use Rattle.mxf_klv.specs.Note.{end_of, keeps_value}
use Rattle.mxf_klv.specs.Kind.{kind_of}
use Rattle.mxf_klv.specs.Rising.{In}
use Rattle.mxf_sets.specs.declared.pack.part.PackPart.TheVariants.{Footer}
use Rattle.mxf_sets.specs.declared.pack.random_index.RipEntry.{RipEntry}
use Rattle.mxf_sets.specs.PartitionPack.{IsPartitionKind}
use Rattle.mxf_sets.specs.RandomIndexPack.{RipParts}
use Rattle.mxf_sets.specs.PackReadings.{pack_at, primer_at, rip_at}
use Rattle.mxf_sets.specs.Items.{left_of}
use Rattle.mxf_sets.specs.Preface.{preface_at}
use Rattle.mxf_sets.specs.Identification.{identification_at}
use Rattle.mxf_sets.specs.Storage.{storage_at}
use Rattle.mxf_sets.specs.Package.{package_at}
use Rattle.mxf_sets.specs.Segment.{segment_at}
use Rattle.mxf_catalogue.specs.Disputes.{IsClear, Overlaps, SharesOffset}
use Rattle.mxf_views.specs.declared.chain.Link.TheVariants.{Skips, Missing, Wrong}
use Rattle.mxf_views.specs.declared.copy.CopyInfo.{CopyInfo}
use Rattle.mxf_references.specs.declared.reference.target.Ref.{Ref}
use Rattle.mxf_references.specs.declared.reference.target.Target.TheVariants.{Found}
use Rattle.mxf_findings.specs.declared.finding.Code.{Code}
use Rattle.mxf_findings.specs.declared.finding.Code.TheVariants.{F01, F02, F03, F04, F05, F06, F07, F08, F09, F10, F11}
use Rattle.mxf_findings.specs.declared.finding.Code.TheVariants.{F12, F13, F14}
use Rattle.mxf_findings.specs.declared.finding.Finding.{Finding}
use Rattle.mxf_views.specs.Partitions.{IsLink, HangTogether, PartitionParts, partitions_of}
use Rattle.mxf_views.specs.Gaps.{IsGap}
use Rattle.mxf_views.specs.Readings.{IsReadAs, IsReadable}
use Rattle.mxf_views.specs.Copies.{IsCopy, IsMetadataKind}
use Rattle.mxf_references.specs.Resolved.{ResolvedParts}
use Rattle.mxf_references.specs.ResolvedView.{IsResolvedFrom}

-- A primer pack or a set of that kind is readable: a raw set if items make up its value.
abbrev pub IsReadableSet : Kind → NoteParts → Type 0
IsReadableSet kinds.Primer n = IsReadable primer_at n
IsReadableSet kinds.Preface n = IsReadable preface_at n
IsReadableSet kinds.Identification n = IsReadable identification_at n
IsReadableSet kinds.ContentStorage n = IsReadable storage_at n
IsReadableSet kinds.MaterialPackage n = IsReadable package_at n
IsReadableSet kinds.SourcePackage n = IsReadable package_at n
IsReadableSet kinds.RawSet n = IsTrue (keeps_value n) × (left_of n.held ≡ [])
IsReadableSet _ n = ⊥

-- A gap begins at the offset.
pub record IsGapStart (notes : List NoteParts) (offset : ℕ) : Type 0 where
  pub gap : IsGap notes offset
  pub first : (before : ℕ) → before + 1 ≡ offset → ¬ IsGap notes before

-- The link of the partition is neither First nor Held.
abbrev pub IsUnlinked : List PartitionParts → PartitionParts → Type 0
IsUnlinked partitions p = IsLink partitions p Skips ⊎ (IsLink partitions p Missing ⊎ IsLink partitions p Wrong)

abbrev pub IsOpen : Status → Type 0
IsOpen status = (status ≡ OpenIncomplete) ⊎ (status ≡ OpenComplete)

-- The partition names an offset other than 0 as that of the footer partition, and none stands there.
pub record LacksFooter (partitions : List PartitionParts) (p : PartitionParts) : Type 0 where
  pub named : p.pack.numbers.footer_partition ≢ 0
  pub none : (q : PartitionParts) → In q partitions → q.pack.part ≡ Footer
      → q.offset ≢ p.pack.numbers.footer_partition

-- What a random index pack says of a partition.
abbrev pub entry_of : PartitionParts → RipEntry
entry_of p = record { body_sid = p.pack.numbers.body_sid; offset = p.offset }

-- Another clear note has a random index pack.
abbrev pub HasOther : List NoteParts → NoteParts → Type 0
HasOther notes n = (m : NoteParts) × IsClear m notes × (m ≢ n) × (kind_of m.key ≡ kinds.Rip)

-- Some note of a whole packet, even a disputed one, ends above the end of this one.
abbrev pub IsNotLast : List NoteParts → NoteParts → Type 0
IsNotLast notes n = (m : NoteParts) × In m notes × IsTrue m.whole × (end_of n < end_of m)

-- The entries of the random index pack aren't those of the partitions, in their order.
abbrev pub ListsOthers : List NoteParts → NoteParts → Type 0
ListsOthers notes n =
    (rip : RipParts) × IsReadAs (rip_at n.width) n rip × (rip.entries ≢ map entry_of (partitions_of notes))

-- The set at the offset holds the reference: the Preface those to the storage and to the identifications, the storage
-- those to the packages.
abbrev pub Holds : ResolvedParts → ℕ → Ref → Type 0
Holds r offset ref =
    ((offset ≡ r.preface) × ((r.storage ≡ Some ref) ⊎ In ref r.identifications))
    ⊎ ((storage : Ref) × (r.storage ≡ Some storage) × (storage.target ≡ Found offset) × In ref r.packages)

-- The set at the offset is one of the preferred copy, and holds a reference that isn't found.
pub record HoldsLost (notes : List NoteParts) (offset : ℕ) : Type 0 where
  pub resolved : ResolvedParts
  pub preferred : IsResolvedFrom notes resolved
  pub ref : Ref
  pub holds : Holds resolved offset ref
  pub lost : (found : ℕ) → ref.target ≢ Found found

-- The offset is that of a note for which this holds.
abbrev pub AtNote : List NoteParts → ℕ → (NoteParts → Type 0) → Type 0
AtNote notes offset P = (n : NoteParts) × In n notes × (n.offset ≡ offset) × P n

-- The offset is that of a clear note for which this holds.
abbrev pub AtClear : List NoteParts → ℕ → (NoteParts → Type 0) → Type 0
AtClear notes offset P = (n : NoteParts) × IsClear n notes × (n.offset ≡ offset) × P n

-- The offset is that of a partition for which this holds.
abbrev pub AtPartition : List NoteParts → ℕ → (PartitionParts → Type 0) → Type 0
AtPartition notes offset P = (p : PartitionParts) × In p (partitions_of notes) × (p.offset ≡ offset) × P p

-- The cause of a code is met at the offset.
abbrev pub IsFoundAt : Code → List NoteParts → ℕ → Type 0
IsFoundAt F01 notes offset = AtNote notes offset (λ n. SharesOffset n notes)
IsFoundAt F02 notes offset = AtNote notes offset (λ n. Overlaps n notes)
IsFoundAt F03 notes offset = IsGapStart notes offset
IsFoundAt F04 notes offset =
    AtClear notes offset (λ n. IsPartitionKind (kind_of n.key) × ¬ IsReadable (pack_at (kind_of n.key)) n)
IsFoundAt F05 notes offset = AtPartition notes offset (λ p. p.pack.numbers.this_partition ≢ p.offset)
IsFoundAt F06 notes offset = AtPartition notes offset (IsUnlinked (partitions_of notes))
IsFoundAt F07 notes offset = AtPartition notes offset (λ p. (p.pack.part ≡ Footer) × IsOpen p.pack.status)
IsFoundAt F08 notes offset = AtPartition notes offset (LacksFooter (partitions_of notes))
IsFoundAt F09 notes offset =
    (c : CopyInfo) × IsCopy notes c × (c.partition ≡ offset) × ((c.start ≡ None) ⊎ (c.finished ≡ false))
IsFoundAt F10 notes offset =
    AtClear notes offset (λ n. IsMetadataKind (kind_of n.key) × ¬ IsReadableSet (kind_of n.key) n)
IsFoundAt F11 notes offset =
    AtClear notes offset (λ n. (kind_of n.key ≡ kinds.Segment) × ¬ IsReadable segment_at n)
IsFoundAt F12 notes offset =
    AtClear notes offset (λ n. (kind_of n.key ≡ kinds.Rip)
    × (¬ IsReadable (rip_at n.width) n ⊎ (HasOther notes n ⊎ (IsNotLast notes n ⊎ ListsOthers notes n))))
IsFoundAt F13 notes offset = HoldsLost notes offset
IsFoundAt F14 notes offset = (offset ≡ 0) × ¬ HangTogether notes

-- The cause of the finding's code is met at its offset.
abbrev pub IsFinding : List NoteParts → Finding → Type 0
IsFinding notes f = IsFoundAt f.code notes f.offset
