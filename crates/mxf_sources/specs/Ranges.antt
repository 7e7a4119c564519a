-- Of which sources bytes are at hand, and where these lie (this project's profile).
use Rattle.std.specs.Prelude.{◌≡◌, ◌-◌, ℕ, Bool, List, [], ◌∷◌, map, min, slice_get, if◌then◌else◌}
use Rattle.std.specs.List.{list_any}
use Rattle.std.specs.Option.{option_map_or}
use Rattle.mxf_klv.specs.Note.{greatest_end}
use Rattle.mxf_hand.specs.Settling.{settled}
use Rattle.mxf_hand.specs.declared.given.Extent.{Extent}
use Rattle.mxf_hand.specs.declared.given.SourceFault.{SourceFault}
use Rattle.mxf_hand.specs.declared.given.SourceFault.TheVariants as faults
use Rattle.mxf_hand.specs.declared.given.excerpt.Excerpt.{Excerpt}
use Rattle.mxf_klv.specs.Parts.{NoteParts}
use Rattle.mxf_places.specs.AtHand.{AtHandParts, nothing_at_hand}
use Rattle.mxf_read.specs.Gathering.{piece_limit}
use Rattle.mxf_read.specs.declared.gathering.report.PieceReport.{PieceReport}
use Rattle.mxf_saving.specs.Sources.{Piece, Range, Saved, Slice, SourceParts, is_range, source_parts}
use Rattle.mxf_saving.specs.declared.source.Source.{Source}

-- One of the sources is a range.
abbrev pub has_range : List Source → Bool
has_range sources = list_any (λ s. is_range (source_parts s)) sources

-- Nothing is put together: what is held is as it was, and nothing is at hand.
pub record IsUntouched (before after : List NoteParts) (at : AtHandParts) : Type 0 where
  pub held : after ≡ before
  pub hand : at ≡ nothing_at_hand

-- The reports of pieces: if one of the sources is a range, with the stops as ends that what is held makes up for.
abbrev pub settled_reports : List Source → List NoteParts → List Extent → List PieceReport → List PieceReport
settled_reports sources notes extents reports =
    if has_range sources then map (settled notes extents) reports else reports

-- The fault with the number of the source that an excerpt is of, in place of that of the excerpt.
abbrev pub fault_of_source : SourceFault → List Excerpt → SourceFault
fault_of_source faults.OutOfMemory excerpts = faults.OutOfMemory
fault_of_source (faults.ReadFault number) excerpts =
    faults.ReadFault (option_map_or (λ e. e.source) (slice_get excerpts number) number)

-- The offset of the first byte that a source gives.
abbrev pub gives_from : SourceParts → ℕ
gives_from (Piece offset path) = min offset greatest_end
gives_from (Range offset path) = min offset greatest_end
gives_from (Slice offset size path) = min offset greatest_end
gives_from (Saved path) = 0

-- How many bytes it has whose file has so many: a slice those that it names, a catalogue none.
abbrev pub bytes_of : SourceParts → ℕ → ℕ
bytes_of (Piece offset path) size = size
bytes_of (Range offset path) size = size
bytes_of (Slice offset own path) size = own
bytes_of (Saved path) size = 0

-- How many of them it gives: no more than are read of a piece, and none at or above the greatest end.
abbrev pub gives_count : SourceParts → ℕ → ℕ
gives_count s size = min (bytes_of s size) (min piece_limit (greatest_end - gives_from s))

-- The extent is where the bytes lie that the source gives, for the size that its file had.
pub record IsExtentOf (s : Source) (e : Extent) : Type 0 where
  pub size : ℕ
  pub from : e.offset ≡ gives_from (source_parts s)
  pub count : e.size ≡ gives_count (source_parts s) size

-- Each source has its extent, in their order.
abbrev pub AreExtentsOf : List Source → List Extent → Type 0
AreExtentsOf [] [] = Unit {0}
AreExtentsOf [] (e ∷ extents) = ⊥
AreExtentsOf (s ∷ sources) [] = ⊥
AreExtentsOf (s ∷ sources) (e ∷ extents) = IsExtentOf s e × AreExtentsOf sources extents
