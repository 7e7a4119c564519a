-- The lines of a map (this project's profile).
use Rattle.std.specs.Prelude.{◌≡◌, ℕ, Bool, true, false, zero, suc, ◌+◌, ◌-◌, ◌*◌, ◌/◌, ◌%◌, List, [], ◌∷◌, ◌++◌, codes}
use Rattle.std.specs.Prelude.{decimal, drop, length, flat_map, take}
use Rattle.std.specs.List.{repeat}
use Rattle.mxf_places.specs.AtHand.{KnownParts}
use Rattle.mxf_map.specs.Extents.{AreExtents, standing_at}
use Rattle.mxf_map.specs.Map.{MapParts}
use Rattle.mxf_map.specs.Words.{byte_standing_name}
use Rattle.mxf_map.specs.declared.extent.MapExtent.{MapExtent}
use Rattle.mxf_map.specs.declared.map.Mark.{Mark}
use Rattle.mxf_map.specs.declared.map.Mark.TheVariants.{Disputed, Header, Footer, Body, RandomIndex, Missing, Hand}
use Rattle.mxf_map.specs.declared.map.Mark.TheVariants.{Empty, Part, Metadata, Index, Whole}
use Rattle.mxf_forms.specs.Forms.{Number, PrintedLine, digits, field, line, number, number_member, word}

-- The character of a mark.
abbrev pub mark_text : Mark → List ℕ
mark_text Disputed = codes "!"
mark_text Header = codes "H"
mark_text Footer = codes "F"
mark_text Body = codes "B"
mark_text RandomIndex = codes "R"
mark_text Missing = codes "o"
mark_text Hand = codes "~"
mark_text Empty = codes "."
mark_text Part = codes "+"
mark_text Metadata = codes "m"
mark_text Index = codes "i"
mark_text Whole = codes "#"

-- How much of the bytes it is, in thousandths, rounded down: the last digit after a point.
abbrev pub share_text : ℕ → List ℕ
share_text share = decimal (share / 10) ++ (codes "." ++ decimal (share % 10))

-- The first line: where the map ends, how many bytes are held, how many others are at hand, how many are neither, how
-- much is either, how many ranges aren't held, how many packets are disputed, and the bytes of a cell.
unfoldable pub map_line : MapParts → PrintedLine
map_line m =
    line "map" (number " " "end" m.end ∷ number " held " "held" m.held ∷ number " hand " "hand" m.hand
    ∷ number " missing " "missing" (m.end - m.held - m.hand)
    ∷ digits " share " "share" (share_text (1000 * (m.held + m.hand) / m.end)) ∷ number " gaps " "gaps" m.gaps
    ∷ number " disputed " "disputed" m.disputed ∷ number " cell " "cell" m.cell ∷ [])

-- The line of a row of cells: the offset of its first byte after a number of spaces, and the characters of the
-- marks.
unfoldable pub row_line : ℕ → ℕ → List Mark → PrintedLine
row_line spaces offset marks =
    line "row" (field (codes " " ++ repeat spaces (codes " ")) (codes "offset") (Number (decimal offset))
    ∷ word " " "cells" (flat_map mark_text marks) ∷ [])

-- The lines of rows of a number of cells, after those that were passed; offsets have at least a width.
abbrev pub rows_by : ℕ → ℕ → ℕ → ℕ → ℕ → List Mark → List PrintedLine
rows_by columns cell width zero passed marks = []
rows_by columns cell width (suc fuel) passed [] = []
rows_by columns cell width (suc fuel) passed (m ∷ marks) =
    row_line (width - length (decimal (passed * cell))) (passed * cell) (take columns (m ∷ marks))
    ∷ rows_by columns cell width fuel (passed + columns) (drop columns (m ∷ marks))

-- The same: there are no more rows than cells.
abbrev pub rows_of : ℕ → ℕ → ℕ → ℕ → List Mark → List PrintedLine
rows_of columns cell width passed marks = rows_by columns cell width (length marks) passed marks

-- The digits of the offset of the last row of a number of cells.
abbrev pub row_width : ℕ → ℕ → ℕ → ℕ
row_width columns cell count = length (decimal ((count - 1 - (count - 1) % columns) * cell))

-- The line of a range that stands alike: where it begins and ends, how it stands, and in JSON how many bytes it has.
unfoldable pub extent_line : MapExtent → PrintedLine
extent_line e =
    line "extent" (number " " "start" e.start ∷ number " " "end" e.end
    ∷ word " " "standing" (byte_standing_name e.standing) ∷ number_member "length" (e.end - e.start) ∷ [])

-- The ranges that are told of the bytes below an end: all maximal ones that stand alike, or none if they aren't asked
-- for.
abbrev pub AreToldExtents : KnownParts → ℕ → Bool → List MapExtent → Type 0
AreToldExtents known end true extents = AreExtents (standing_at known) end 0 extents
AreToldExtents known end false extents = extents ≡ []

-- The lines of a map: the first, one for each row, and one for each range that is told.
abbrev pub map_lines : ℕ → MapParts → List MapExtent → List PrintedLine
map_lines columns m extents =
    map_line m ∷ (rows_of columns m.cell (row_width columns m.cell (length m.marks)) 0 m.marks
    ++ flat_map (λ e. extent_line e ∷ []) extents)
