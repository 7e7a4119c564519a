-- Where the piece of a range begins: bytes whose first may lie inside a packet (this project's profile).
use Rattle.std.specs.Prelude.{◌≡◌, ◌≢◌, ◌<◌, ◌≤◌, ◌+◌, ◌⊎◌, ℕ, suc, nat_le, Bool, true, false, not, ◌&&◌, ◌||◌, min}
use Rattle.std.specs.Prelude.{◌^◌, ◌-◌, if◌then◌else◌, List, [], ◌∷◌, length as len, take, drop, slice_get, Option}
use Rattle.std.specs.Prelude.{None, Some, IfSome}
use Rattle.std.specs.Option.{option_map, option_map_or}
use Rattle.std.specs.Io.KnownBytes.{Consumes}
use Rattle.std.specs.Str.{bytes_eq}
use Rattle.mxf_klv.specs.Parts.{LengthParts, NoteParts}
use Rattle.mxf_klv.specs.Label.{BeginsAsLabel, begins_as_label}
use Rattle.mxf_klv.specs.Kind.{kind_of}
use Rattle.mxf_klv.specs.KeyAndLength.{BeginsWithKeyAndLength}
use Rattle.mxf_klv.specs.Note.{greatest_end}
use Rattle.mxf_klv.specs.PieceReading.{end_with, head_at, notes_in}
use Rattle.mxf_klv.specs.declared.kinds.Kind.{Kind}
use Rattle.mxf_klv.specs.declared.kinds.Kind.TheVariants.{Other}
use Rattle.mxf_klv.specs.declared.piece.Stop.TheVariants.{NoStart}
use Rattle.mxf_read.specs.Absorbs.{report_of}
use Rattle.mxf_read.specs.declared.report.Report.{Report}
use Rattle.mxf_read.specs.declared.gathering.report.PieceReport.{PieceReport}

-- The bytes of a range that are searched for its start, at most.
abbrev pub window_limit : ℕ
window_limit = 33554432

-- The key is that of a packet by which a piece may begin: its kind isn't Other, or it is of the groups registry
-- (ST 336: byte 5 is 02).
abbrev pub IsStartKey : List ℕ → Type 0
IsStartKey key = (kind_of key ≢ Other) ⊎ (slice_get key 4 ≡ Some 0x02)

-- A piece may begin at a position of a window, the first byte of which lies at an offset: a whole key and a whole
-- length stand there, the packet ends where it may, and a label follows it, as far as there are bytes.
pub record MayBegin (offset : ℕ) (window : List ℕ) (position : ℕ) : Type 0 where
  pub key : List ℕ
  pub length : LengthParts
  pub after : List ℕ
  pub stands : BeginsWithKeyAndLength (drop position window) key length after
  pub start_key : IsStartKey key
  pub within : offset + position + (16 + length.width + length.value) ≤ greatest_end
  pub next : BeginsAsLabel (drop length.value after)

-- Of each packet by which a piece may begin before a position of a window, the four bytes after it lie among the first
-- `size` of the window.
abbrev pub ShowsNextBefore : ℕ → ℕ → List ℕ → ℕ → Type 0
ShowsNextBefore start offset window size =
    (position : ℕ) → position < start → (may : MayBegin offset window position)
    → position + (16 + may.length.width + may.length.value) + 4 ≤ size

-- The least position of a window at which a piece may begin.
pub record IsStart (offset : ℕ) (window : List ℕ) (start : ℕ) : Type 0 where
  pub may : MayBegin offset window start
  pub least : (position : ℕ) → position < start → ¬ MayBegin offset window position

-- The kind is Other.
abbrev pub is_other : Kind → Bool
is_other Other = true
is_other kind = false

-- `IsStartKey` as a test.
abbrev pub is_start_key : List ℕ → Bool
is_start_key key = not (is_other (kind_of key)) || bytes_eq (take 1 (drop 4 key)) (0x02 ∷ [])

-- A piece may begin at the front of bytes, the first of which lies at an offset.
unfoldable pub may_begin : ℕ → List ℕ → Bool
may_begin offset bytes = option_map_or (λ l. is_start_key (take 16 bytes) && nat_le (end_with offset l) greatest_end
    && begins_as_label (drop (16 + l.width + l.value) bytes)) (head_at bytes) false

-- The first position at which a piece may begin. The law `each_range_has_one_start` says that it is the one of
-- `IsStart`.
unfoldable pub start_in : ℕ → List ℕ → Option ℕ
start_in offset [] = None
start_in offset (byte ∷ bytes) =
    if may_begin offset (byte ∷ bytes) then Some 0 else option_map (λ p. suc p) (start_in (offset + 1) bytes)

-- The window of a range's bytes.
abbrev pub window_of : List ℕ → List ℕ
window_of bytes = take window_limit bytes

-- A piece may begin at no position of a window.
abbrev pub HasNoStart : ℕ → List ℕ → Type 0
HasNoStart offset window = (position : ℕ) → ¬ MayBegin offset window position

-- What a reader had left is the bytes of a range, and what it has left now follows on their window if that has no
-- start: nothing more was read.
abbrev pub LeavesTheRest : ℕ → Option (List ℕ) → Option (List ℕ) → Type 0
LeavesTheRest offset old new = IfSome old (λ all. HasNoStart offset (window_of all) → Consumes old new (window_of all))

-- Where the piece of a range begins that has these bytes, the first of them at an offset; without a start, where the
-- range does.
abbrev pub piece_offset : ℕ → List ℕ → ℕ
piece_offset offset bytes = option_map_or (λ p. offset + p) (start_in offset (window_of bytes)) offset

-- The bytes of its piece: those from its start on, after the window too; without a start, none.
abbrev pub piece_bytes : ℕ → List ℕ → List ℕ
piece_bytes offset bytes = option_map_or (λ p. drop p bytes) (start_in offset (window_of bytes)) []

-- The notes of its piece.
abbrev pub range_notes : ℕ → List ℕ → List NoteParts
range_notes offset bytes = notes_in (piece_offset offset bytes) (piece_bytes offset bytes)

-- What is reported of a range without a start: the stop is the first offset after its window, as far as a `u64` holds
-- it.
abbrev pub no_start : ℕ → ℕ → Report
no_start offset size = record { noted = 0; stop = NoStart (min (offset + size) (2 ^ 64 - 1)) }

-- What is reported of a range that is the part with a number: what is of its piece, if that begins; or that it has no
-- start.
abbrev pub range_report : ℕ → ℕ → List ℕ → PieceReport
range_report part offset bytes = record {
  part = part;
  offset = piece_offset offset bytes;
  report =
      option_map_or (λ p. report_of (offset + p) (drop p bytes)) (start_in offset (window_of bytes))
      (no_start offset (len (window_of bytes)));
}
