-- What is held of a file, as a picture of cells (this project's profile).
use Rattle.std.specs.Prelude.{◌≡◌, ℕ, ◌+◌, ◌-◌, ◌/◌, ◌<◌, ◌≤◌, ◌&&◌, not, nat_lt, max, min, List, [], ◌∷◌, count_by}
use Rattle.std.specs.Prelude.{filter, length, map}
use Rattle.std.specs.List.{range_with_len}
use Rattle.mxf_klv.specs.declared.kinds.Kind.{Kind}
use Rattle.mxf_klv.specs.declared.kinds.Kind.TheVariants as kinds
use Rattle.mxf_klv.specs.Parts.{NoteParts}
use Rattle.mxf_klv.specs.Note.{IsInSpan}
use Rattle.mxf_klv.specs.Kind.{kind_of}
use Rattle.mxf_klv.specs.Rising.{In}
use Rattle.mxf_sets.specs.declared.pack.part.PackPart.{PackPart}
use Rattle.mxf_sets.specs.declared.pack.part.PackPart.TheVariants as parts
use Rattle.mxf_catalogue.specs.Disputes.{IsClear, disputed_notes}
use Rattle.mxf_views.specs.Copies.{IsMetadataKind}
use Rattle.mxf_views.specs.Partitions.{PartitionParts, partitions_of}
use Rattle.mxf_places.specs.Held.{IsDisputedAt, IsHeld, is_held}
use Rattle.mxf_places.specs.AtHand.{KnownParts, edge_of, has_offset}
use Rattle.mxf_catalogue.specs.declared.run.Run.{Run}
use Rattle.mxf_catalogue.specs.Runs.{LiesIn}
use Rattle.mxf_restore.specs.Missing.{missing_places}
use Rattle.mxf_restore.specs.Sections.{holes_of}
use Rattle.mxf_map.specs.declared.map.Mark.{Mark}
use Rattle.mxf_map.specs.declared.map.Mark.TheVariants as marks

-- The greatest of numbers; 0 if there is none.
abbrev pub greatest_of : List ℕ → ℕ
greatest_of [] = 0
greatest_of (x ∷ xs) = max x (greatest_of xs)

-- The end of the map: how far the file reaches, and beyond each missing place; at least 1.
unfoldable pub map_end : KnownParts → ℕ
map_end known =
    max 1 (max (edge_of known.at known.notes) (greatest_of (map (λ x. x + 1) (missing_places known.notes))))

-- The bytes of a cell, if there are at most a given number of cells.
abbrev pub cell_size : ℕ → ℕ → ℕ
cell_size end cells = (end + (cells - 1)) / cells

-- The offset is one of a cell.
pub record IsInCell (from to x : ℕ) : Type 0 where
  pub above : from ≤ x
  pub below : x < to

-- The number of held bytes below an end.
abbrev pub held_below : List NoteParts → ℕ → ℕ
held_below notes end = count_by (is_held notes) (range_with_len 0 end)

-- The number of bytes below an end that are at hand and not held.
abbrev pub hand_below : KnownParts → ℕ → ℕ
hand_below known end =
    count_by (λ x. has_offset known.at.hand x && not (is_held known.notes x)) (range_with_len 0 end)

-- The number of maximal ranges below an end that aren't held.
abbrev pub gaps_below : List NoteParts → ℕ → ℕ
gaps_below notes end = length (filter (λ h. nat_lt h.start end) (holes_of notes))

-- A partition of a part of the file begins in the cell.
abbrev pub HasPartition : List NoteParts → ℕ → ℕ → PackPart → Type 0
HasPartition notes from to part =
    (p : PartitionParts) × In p (partitions_of notes) × (p.pack.part ≡ part) × IsInCell from to p.offset

-- A byte of the cell lies in a clear packet for which this holds.
abbrev pub HasByteOf : List NoteParts → ℕ → ℕ → (Kind → Type 0) → Type 0
HasByteOf notes from to P =
    (n : NoteParts) × IsClear n notes × P (kind_of n.key) × ((x : ℕ) × IsInCell from to x × IsInSpan n x)

-- No byte of the cell is held.
abbrev pub NoneHeld : List NoteParts → ℕ → ℕ → Type 0
NoneHeld notes from to = (x : ℕ) → IsInCell from to x → ¬ IsHeld notes x

-- An offset of the runs lies in the cell.
abbrev pub HasOffset : List Run → ℕ → ℕ → Type 0
HasOffset runs from to = (x : ℕ) × IsInCell from to x × LiesIn runs x

-- What a mark says of a cell: an offset is disputed; a header, footer or body partition begins in it; a clear random
-- index pack does; a missing place lies in it; nothing is held, and an offset is at hand; nothing is held; not all is
-- held; a byte is one of header metadata, or of an index table segment; or all is held.
abbrev pub Says : KnownParts → ℕ → ℕ → Mark → Type 0
Says known from to marks.Disputed = (x : ℕ) × IsInCell from to x × IsDisputedAt known.notes x
Says known from to marks.Header = HasPartition known.notes from to parts.Header
Says known from to marks.Footer = HasPartition known.notes from to parts.Footer
Says known from to marks.Body = HasPartition known.notes from to parts.Body
Says known from to marks.RandomIndex =
    (n : NoteParts) × IsClear n known.notes × (kind_of n.key ≡ kinds.Rip) × IsInCell from to n.offset
Says known from to marks.Missing = (x : ℕ) × In x (missing_places known.notes) × IsInCell from to x
Says known from to marks.Hand = NoneHeld known.notes from to × HasOffset known.at.hand from to
Says known from to marks.Empty = NoneHeld known.notes from to
Says known from to marks.Part = (x : ℕ) × IsInCell from to x × ¬ IsHeld known.notes x
Says known from to marks.Metadata = HasByteOf known.notes from to IsMetadataKind
Says known from to marks.Index = HasByteOf known.notes from to (λ k. k ≡ kinds.Segment)
Says known from to marks.Whole = Unit {0}

abbrev pub rank : Mark → ℕ
rank marks.Disputed = 0
rank marks.Header = 1
rank marks.Footer = 2
rank marks.Body = 3
rank marks.RandomIndex = 4
rank marks.Missing = 5
rank marks.Hand = 6
rank marks.Empty = 7
rank marks.Part = 8
rank marks.Metadata = 9
rank marks.Index = 10
rank marks.Whole = 11

-- The mark of a cell: the first that says something true of it.
pub record IsMark (known : KnownParts) (from to : ℕ) (mark : Mark) : Type 0 where
  pub says : Says known from to mark
  pub first : (other : Mark) → rank other < rank mark → ¬ Says known from to other

-- The marks of the cells of a size, one after another from an offset up to an end.
abbrev pub AreMarks : KnownParts → ℕ → ℕ → ℕ → List Mark → Type 0
AreMarks known size end from [] = end ≤ from
AreMarks known size end from (m ∷ ms) =
    (from < end) × IsMark known from (min (from + size) end) m × AreMarks known size end (from + size) ms

-- A map: its end, how many bytes below it are held, how many others are at hand, how many ranges aren't held, how many
-- notes are disputed, the size of a cell, and the marks.
pub record MapParts : Type 0 where
  pub end : ℕ
  pub held : ℕ
  pub hand : ℕ
  pub gaps : ℕ
  pub disputed : ℕ
  pub cell : ℕ
  pub marks : List Mark

-- The map of at most a given number of cells.
pub record IsMap (known : KnownParts) (cells : ℕ) (m : MapParts) : Type 0 where
  pub end : m.end ≡ map_end known
  pub held : m.held ≡ held_below known.notes m.end
  pub hand : m.hand ≡ hand_below known m.end
  pub gaps : m.gaps ≡ gaps_below known.notes m.end
  pub disputed : m.disputed ≡ length (disputed_notes known.notes)
  pub cell : m.cell ≡ cell_size m.end cells
  pub marks : AreMarks known m.cell m.end 0 m.marks
