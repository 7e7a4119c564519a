-- The random index pack, and how its entries stand to the partitions (ST 377-1, Random Index Pack; the names are this
-- project's profile). They go by the clear notes alone.
use Rattle.std.specs.Prelude.{◌≡◌, ◌≢◌, ℕ, ◌==◌, Bool, true, false, if◌then◌else◌, Option, Some, None, List, map}
use Rattle.std.specs.Prelude.{filter, find}
use Rattle.mxf_klv.specs.declared.kinds.Kind.{Kind}
use Rattle.mxf_klv.specs.declared.kinds.Kind.TheVariants as kinds
use Rattle.mxf_klv.specs.Parts.{NoteParts}
use Rattle.mxf_klv.specs.Kind.{kind_of}
use Rattle.mxf_klv.specs.Rising.{In}
use Rattle.mxf_sets.specs.declared.pack.random_index.RipEntry.{RipEntry}
use Rattle.mxf_sets.specs.RandomIndexPack.{RipParts}
use Rattle.mxf_sets.specs.PackReadings.{rip_at}
use Rattle.mxf_sets.specs.Readable.{read_as}
use Rattle.mxf_catalogue.specs.Disputes.{IsClear, clear_notes}
use Rattle.mxf_views.specs.Partitions.{PartitionParts, partitions_of}
use Rattle.mxf_views.specs.Readings.{IsReadAs}
use Rattle.mxf_views.specs.declared.random_index.Standing.{Standing}
use Rattle.mxf_views.specs.declared.random_index.Standing.TheVariants.{Held, Differs, Missing}

abbrev pub is_rip : Kind → Bool
is_rip kinds.Rip = true
is_rip _ = false

unfoldable pub is_rip_note : NoteParts → Bool
is_rip_note n = is_rip (kind_of n.key)

-- The clear random index packs, readable or not.
unfoldable pub rips_of : List NoteParts → List NoteParts
rips_of notes = filter is_rip_note (clear_notes notes)

-- The random index pack of a note: its value is kept and is one, under the width of the note's length.
abbrev pub rip_in : NoteParts → Option RipParts
rip_in n = read_as (rip_at n.width) n

-- How an entry stands to the partition at its offset.
abbrev pub standing_by : RipEntry → Option PartitionParts → Standing
standing_by entry None = Missing
standing_by entry (Some p) = if p.pack.numbers.body_sid == entry.body_sid then Held else Differs

abbrev pub standing_of : List PartitionParts → RipEntry → Standing
standing_of partitions entry = standing_by entry (find (λ p. p.offset == entry.offset) partitions)

-- Each entry with its standing to partitions, and to those of the notes.
abbrev pub standings_among : List PartitionParts → List RipEntry → List (RipEntry × Standing)
standings_among partitions entries = map (λ entry. (entry, standing_of partitions entry)) entries

abbrev pub standings : List NoteParts → List RipEntry → List (RipEntry × Standing)
standings notes entries = standings_among (partitions_of notes) entries

-- A random index pack: where its packet begins, and its entries with their standings.
pub record RipAtParts : Type 0 where
  pub offset : ℕ
  pub entries : List (RipEntry × Standing)

-- A partition at the offset of the entry has its BodySID; or the partition there has another; or none is there.
abbrev pub IsStanding : List PartitionParts → RipEntry → Standing → Type 0
IsStanding partitions entry Held =
    (p : PartitionParts) × In p partitions × (p.offset ≡ entry.offset) × (p.pack.numbers.body_sid ≡ entry.body_sid)
IsStanding partitions entry Differs =
    (p : PartitionParts) × In p partitions × (p.offset ≡ entry.offset) × (p.pack.numbers.body_sid ≢ entry.body_sid)
IsStanding partitions entry Missing = (p : PartitionParts) → In p partitions → p.offset ≢ entry.offset

-- A clear random index pack, readable or not.
pub record IsClearRip (notes : List NoteParts) (n : NoteParts) : Type 0 where
  pub clear : IsClear n notes
  pub kind : kind_of n.key ≡ kinds.Rip

-- The only one.
pub record IsOnlyRip (notes : List NoteParts) (n : NoteParts) : Type 0 where
  pub held : IsClearRip notes n
  pub only : (m : NoteParts) → IsClearRip notes m → m ≡ n

-- Two different ones.
pub record AreSeveralRips (notes : List NoteParts) : Type 0 where
  pub one : NoteParts
  pub other : NoteParts
  pub one_held : IsClearRip notes one
  pub other_held : IsClearRip notes other
  pub differ : one ≢ other

-- The note keeps its value, and this is the random index pack that the value is under the width of the note's length.
abbrev pub IsReadableRip : NoteParts → RipParts → Type 0
IsReadableRip n rip = IsReadAs (rip_at n.width) n rip
