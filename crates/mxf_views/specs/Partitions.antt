-- Partitions, their links and their chain (ST 377-1, Partition Pack; the names of the links are this project's
-- profile). They go by the clear notes alone.
use Rattle.std.specs.Prelude.{◌≡◌, ◌≢◌, ℕ, ◌<◌, ◌≤◌, ◌⊎◌, Bool, true, false, not, ◌&&◌, ◌||◌, ◌==◌, nat_le, nat_lt}
use Rattle.std.specs.Prelude.{if◌then◌else◌, Option, is_some, List, [], find, count_by}
use Rattle.std.specs.Option.{option_map}
use Rattle.std.specs.List.{list_any, list_all, filter_map}
use Rattle.mxf_klv.specs.Parts.{NoteParts}
use Rattle.mxf_klv.specs.Note.{end_of}
use Rattle.mxf_klv.specs.Kind.{kind_of}
use Rattle.mxf_klv.specs.Rising.{In}
use Rattle.mxf_sets.specs.declared.pack.part.PackPart.{PackPart}
use Rattle.mxf_sets.specs.declared.pack.part.PackPart.TheVariants.{Header, Body, Footer}
use Rattle.mxf_klv.specs.declared.kinds.Status.{Status}
use Rattle.mxf_sets.specs.declared.pack.numbers.PartitionNumbers.{PartitionNumbers}
use Rattle.mxf_sets.specs.Batch.{batch_parts}
use Rattle.mxf_sets.specs.PartitionPack.{PartitionPackParts, IsPartitionKind, partition_pack_parts}
use Rattle.mxf_catalogue.specs.Disputes.{IsClear, clear_notes}
use Rattle.mxf_views.specs.declared.chain.Link.{Link}
use Rattle.mxf_views.specs.declared.chain.Link.TheVariants.{First, Held, Skips, Missing, Wrong}
use Rattle.mxf_views.specs.declared.chain.Chain.{Chain}
use Rattle.mxf_views.specs.declared.chain.Chain.TheVariants.{Whole, Broken}
use Rattle.mxf_sets.specs.PackReadings.{pack_at, part_and_status}
use Rattle.mxf_sets.specs.Readable.{read_as}
use Rattle.mxf_views.specs.Readings.{IsReadAs}
use Rattle.mxf_views.specs.Rises.{RiseBy}

-- A partition: where its pack begins and ends, and the pack.
pub record PartitionParts : Type 0 where
  pub offset : ℕ
  pub end : ℕ
  pub pack : PartitionPackParts

-- The partition pack of a note, if it is a readable one: its value is kept and has one.
abbrev pub pack_of : NoteParts → Option PartitionPackParts
pack_of n = read_as (pack_at (kind_of n.key)) n

-- The partition that the note is, if it is a readable partition pack.
unfoldable pub partition_at : NoteParts → Option PartitionParts
partition_at n = option_map (λ pack. record { offset = n.offset; end = end_of n; pack = pack }) (pack_of n)

abbrev pub partitions_among : List NoteParts → List PartitionParts
partitions_among notes = filter_map partition_at notes

-- A partition from an offset to an end; of its pack only the part, the status and the numbers are known.
abbrev pub partition_in_numbers : ℕ → ℕ → PackPart → Status → PartitionNumbers → PartitionParts
partition_in_numbers offset end part status numbers =
    record { offset = offset; end = end; pack = partition_pack_parts part status numbers [] (batch_parts 0 0 []) }

-- The partition without the operational pattern and the labels of its pack.
abbrev pub in_numbers : PartitionParts → PartitionParts
in_numbers p = partition_in_numbers p.offset p.end p.pack.part p.pack.status p.pack.numbers

-- The partitions: the clear readable partition packs.
unfoldable pub partitions_of : List NoteParts → List PartitionParts
partitions_of notes = partitions_among (clear_notes notes)

-- One of the partitions stands at the offset.
abbrev pub stands_at : ℕ → List PartitionParts → Bool
stands_at offset partitions = list_any (λ p. p.offset == offset) partitions

-- One of the partitions stands between the two offsets.
abbrev pub stands_between : ℕ → ℕ → List PartitionParts → Bool
stands_between low high partitions = list_any (λ p. nat_lt low p.offset && nat_lt p.offset high) partitions

-- How a partition at an offset names the one before it, by the number that it states for that. The first has the
-- number 0; any other names a partition below it, the greatest such (`Held`) or one with another in between (`Skips`),
-- or an offset below it where none stands.
abbrev pub link_by : List PartitionParts → ℕ → ℕ → Link
link_by partitions offset previous =
    if offset == 0 then (if previous == 0 then First else Wrong) else (
    if nat_le offset previous then Wrong else (
    if not (stands_at previous partitions) then Missing else (
    if stands_between previous offset partitions then Skips else Held)))

-- The same of a partition.
abbrev pub link_of : List PartitionParts → PartitionParts → Link
link_of partitions p = link_by partitions p.offset p.pack.numbers.previous_partition

-- The link of the partition at the offset, if one stands there.
abbrev pub link_at : ℕ → List PartitionParts → Option Link
link_at offset partitions = option_map (link_of partitions) (find (λ p. p.offset == offset) partitions)

abbrev pub is_header : PackPart → Bool
is_header Header = true
is_header _ = false

abbrev pub is_footer : PackPart → Bool
is_footer Footer = true
is_footer _ = false

-- It is the part that the first says.
abbrev pub is_part : PackPart → PackPart → Bool
is_part Header part = is_header part
is_part Body part = not (is_header part || is_footer part)
is_part Footer part = is_footer part

abbrev pub is_first : Link → Bool
is_first First = true
is_first _ = false

abbrev pub is_held : Link → Bool
is_held Held = true
is_held _ = false

-- A header has link First, every other partition link Held.
abbrev pub is_linked : List PartitionParts → PartitionParts → Bool
is_linked partitions p = if is_header p.pack.part then is_first (link_of partitions p) else is_held
    (link_of partitions p)

-- A partition stands above the offset.
abbrev pub stands_above : ℕ → List PartitionParts → Bool
stands_above offset partitions = list_any (λ q. nat_lt offset q.offset) partitions

-- No partition stands above it.
abbrev pub is_greatest : List PartitionParts → PartitionParts → Bool
is_greatest partitions p = not (stands_above p.offset partitions)

-- A packet that is no partition pack, or a readable one.
unfoldable pub is_no_unreadable_pack : NoteParts → Bool
is_no_unreadable_pack n = not (is_some (part_and_status (kind_of n.key))) || is_some (partition_at n)

-- One header partition with link First, which stands at 0; one footer partition, above which none stands; all other
-- links are Held; and every clear partition pack is readable.
abbrev pub hang_together : List NoteParts → Bool
hang_together notes =
    let partitions = partitions_of notes in
    (count_by (λ p. is_header p.pack.part) partitions == 1)
    && (count_by (λ p. is_footer p.pack.part) partitions == 1)
    && list_all (is_linked partitions) partitions
    && list_all (λ p. not (is_footer p.pack.part) || is_greatest partitions p) partitions
    && list_all is_no_unreadable_pack (clear_notes notes)

abbrev pub chain_of : List NoteParts → Chain
chain_of notes = if hang_together notes then Whole else Broken

-- The note keeps its value, which is that of the partition's pack under the note's key, and the pack stands where the
-- note does.
pub record IsReadablePack (n : NoteParts) (p : PartitionParts) : Type 0 where
  pub read : IsReadAs (pack_at (kind_of n.key)) n p.pack
  pub offset : p.offset ≡ n.offset
  pub end : p.end ≡ end_of n

-- The partition is that of a clear readable partition pack.
abbrev pub IsPartition : List NoteParts → PartitionParts → Type 0
IsPartition notes p = (n : NoteParts) × IsClear n notes × IsReadablePack n p

-- Each stands below all later ones.
abbrev pub AreInOrder : List PartitionParts → Type 0
AreInOrder partitions = RiseBy (λ p. p.offset) partitions

-- One of the partitions stands at the offset.
abbrev pub StandsAt : List PartitionParts → ℕ → Type 0
StandsAt partitions offset = (q : PartitionParts) × In q partitions × (q.offset ≡ offset)

-- The offset is the greatest of a partition below another offset.
pub record IsGreatestBelow (partitions : List PartitionParts) (high offset : ℕ) : Type 0 where
  pub there : StandsAt partitions offset
  pub below : offset < high
  pub greatest : (q : PartitionParts) → In q partitions → q.offset < high → q.offset ≤ offset

-- The offset that a partition names as that of the partition before it.
abbrev pub previous_of : PartitionParts → ℕ
previous_of p = p.pack.numbers.previous_partition

-- At 0 a partition has to name 0. Elsewhere it names itself or what is above it, or the greatest partition below it, or
-- another partition below it, or an offset below it where no partition stands.
abbrev pub IsLink : List PartitionParts → PartitionParts → Link → Type 0
IsLink partitions p First = (p.offset ≡ 0) × (previous_of p ≡ 0)
IsLink partitions p Wrong = ((p.offset ≡ 0) × (previous_of p ≢ 0)) ⊎ ((p.offset ≢ 0) × (p.offset ≤ previous_of p))
IsLink partitions p Held = IsGreatestBelow partitions p.offset (previous_of p)
IsLink partitions p Skips =
    (previous_of p < p.offset) × StandsAt partitions (previous_of p)
    × ¬ IsGreatestBelow partitions p.offset (previous_of p)
IsLink partitions p Missing = (previous_of p < p.offset) × ¬ StandsAt partitions (previous_of p)

-- A partition stands at the offset, and this is its link.
abbrev pub IsLinkAt : List PartitionParts → ℕ → Link → Type 0
IsLinkAt partitions offset l = (p : PartitionParts) × In p partitions × (p.offset ≡ offset) × IsLink partitions p l

-- The only one of the partitions whose pack is that part of the file.
pub record IsOnly (partitions : List PartitionParts) (which : PackPart) (p : PartitionParts) : Type 0 where
  pub held : In p partitions
  pub part : p.pack.part ≡ which
  pub only : (q : PartitionParts) → In q partitions → q.pack.part ≡ which → q ≡ p

-- The only header partition stands at 0 with link First; the greatest partition is the only footer partition; each link
-- but the header's is Held; and at each clear partition pack a partition stands, for it is readable.
pub record HangTogether (notes : List NoteParts) : Type 0 where
  pub header : PartitionParts
  pub one_header : IsOnly (partitions_of notes) Header header
  pub front : header.offset ≡ 0
  pub first : IsLink (partitions_of notes) header First
  pub footer : PartitionParts
  pub one_footer : IsOnly (partitions_of notes) Footer footer
  pub greatest : (q : PartitionParts) → In q (partitions_of notes) → q.offset ≤ footer.offset
  pub held : (p : PartitionParts) → In p (partitions_of notes) → p ≢ header → IsLink (partitions_of notes) p Held
  pub readable : (n : NoteParts) → IsClear n notes → IsPartitionKind (kind_of n.key)
      → StandsAt (partitions_of notes) n.offset
