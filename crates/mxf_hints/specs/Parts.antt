-- The parts that sources name (this project's profile).
use Rattle.mxf_read.specs.declared.gathering.part.Part.{Part}
use Rattle.mxf_read.specs.declared.gathering.part.Part.TheVariants as parts
use Rattle.mxf_saving.specs.Sources.{SourceParts, Piece, Range, Slice, Saved}

-- The part that a source names, by a reader of its bytes: a slice is a piece.
abbrev pub part_of : {R : Type 0} → SourceParts → R → Part R
part_of (Piece offset path) from = parts.Piece offset from
part_of (Range offset path) from = parts.Range offset from
part_of (Slice offset size path) from = parts.Piece offset from
part_of (Saved path) from = parts.Saved from
