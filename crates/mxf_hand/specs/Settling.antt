-- For which stops of pieces what is held makes up (this project's profile).
use Rattle.std.specs.Prelude.{◌≡◌, ℕ, ◌+◌, ◌<◌, ◌≤◌, ◌==◌, ◌&&◌, Bool, true, false, nat_lt, if◌then◌else◌, List, Some}
use Rattle.std.specs.Prelude.{count_by, filter, map, slice_get}
use Rattle.std.specs.List.{list_any, range_with_len}
use Rattle.std.specs.Option.{option_map_or}
use Rattle.mxf_klv.specs.Parts.{NoteParts}
use Rattle.mxf_klv.specs.Rising.{In}
use Rattle.mxf_klv.specs.declared.piece.Stop.{Stop}
use Rattle.mxf_klv.specs.declared.piece.Stop.TheVariants.{End, Truncated, NoStart}
use Rattle.mxf_catalogue.specs.Disputes.{disputed_notes}
use Rattle.mxf_places.specs.Held.{IsHeld, is_held}
use Rattle.mxf_read.specs.declared.gathering.report.PieceReport.{PieceReport}
use Rattle.mxf_hand.specs.declared.given.Extent.{Extent}

-- A whole note, clear or disputed, has the offset.
abbrev pub BeginsWhole : List NoteParts → ℕ → Type 0
BeginsWhole notes x = (n : NoteParts) × In n notes × (n.whole ≡ true) × (n.offset ≡ x)

-- The extent has offsets, and each of them is held.
pub record IsHeldExtent (notes : List NoteParts) (e : Extent) : Type 0 where
  pub some : 0 < e.size
  pub held : (x : ℕ) → e.offset ≤ x → x < e.offset + e.size → IsHeld notes x

-- What is held makes up for the stop of a part's piece: where its packet is cut off a whole note begins; or it is a
-- range without a start, and its source has bytes, each of which is held.
abbrev pub MakesUpFor : List NoteParts → List Extent → ℕ → Stop → Type 0
MakesUpFor notes extents part (Truncated at) = BeginsWhole notes at
MakesUpFor notes extents part (NoStart at) =
    (e : Extent) × (slice_get extents part ≡ Some e) × IsHeldExtent notes e
MakesUpFor notes extents part _ = ⊥

abbrev pub IsWholeStop : List NoteParts → List Extent → PieceReport → Type 0
IsWholeStop notes extents piece = MakesUpFor notes extents piece.part piece.report.stop

-- The same as tests. A law ties them to the relation.

abbrev pub begins_whole : List NoteParts → ℕ → Bool
begins_whole notes x = list_any (λ n. (n.offset == x) && n.whole) notes

-- The offsets of the disputed whole notes, in their order.
abbrev pub disputed_starts : List NoteParts → List ℕ
disputed_starts notes = map (λ d. d.note.offset) (filter (λ d. d.note.whole) (disputed_notes notes))

abbrev pub is_all_held : List NoteParts → Extent → Bool
is_all_held notes e =
    nat_lt 0 e.size && (count_by (is_held notes) (range_with_len e.offset e.size) == e.size)

abbrev pub is_source_held : List NoteParts → List Extent → ℕ → Bool
is_source_held notes extents part = option_map_or (is_all_held notes) (slice_get extents part) false

abbrev pub makes_up_for : List NoteParts → List Extent → ℕ → Stop → Bool
makes_up_for notes extents part (Truncated at) = begins_whole notes at
makes_up_for notes extents part (NoStart at) = is_source_held notes extents part
makes_up_for notes extents part _ = false

abbrev pub is_whole_stop : List NoteParts → List Extent → PieceReport → Bool
is_whole_stop notes extents piece = makes_up_for notes extents piece.part piece.report.stop

-- The report of a piece, whose stop is its end if what is held makes up for it.
abbrev pub settled : List NoteParts → List Extent → PieceReport → PieceReport
settled notes extents piece =
    if is_whole_stop notes extents piece
    then record { part = piece.part; offset = piece.offset; report = record { noted = piece.report.noted; stop = End } }
    else piece
