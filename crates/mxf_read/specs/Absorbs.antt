-- Absorbing a piece: what it leaves of a content, and what it answers (this project's profile).
use Rattle.std.specs.Prelude.{◌≡◌, ℕ, ◌≤◌, ◌⊎◌, List, [], length, take, slice_get, IsSomeAnd, Option, Result, Ok, Err}
use Rattle.std.specs.Io.KnownBytes.{IsAtEnd}
use Rattle.mxf_klv.specs.Parts.{NoteParts}
use Rattle.mxf_klv.specs.Piece.{end_after}
use Rattle.mxf_klv.specs.PieceReading.{IsOpen, notes_in, packets_in, stop_in}
use Rattle.mxf_catalogue.specs.Content.{reduced_union}
use Rattle.mxf_catalogue.specs.History.{History, Absorb, Cut}
use Rattle.mxf_read.specs.Reads.{Takes}
use Rattle.mxf_read.specs.declared.report.Report.{Report}
use Rattle.mxf_read.specs.declared.report.AbsorbFault.{AbsorbFault}
use Rattle.mxf_read.specs.declared.report.AbsorbFault.TheVariants.{OutOfMemory, ReadFault}

-- The report of a whole piece: the number of its packets, and its stop.
abbrev pub report_of : ℕ → List ℕ → Report
report_of offset bytes = record { noted = length (packets_in offset bytes); stop = stop_in offset bytes }

-- The notes of the first `count` packets of a piece.
abbrev pub first_notes_in : ℕ → ℕ → List ℕ → List NoteParts
first_notes_in count offset bytes = take count (notes_in offset bytes)

-- After `count` packets the piece has another note, of a whole packet or of one that its end cuts, and that packet
-- begins at a place.
abbrev pub GoesOnAt : ℕ → ℕ → List ℕ → ℕ → Type 0
GoesOnAt count offset bytes place = IsSomeAnd (slice_get (notes_in offset bytes) count) (λ next. next.offset ≡ place)

-- A piece at an offset is absorbed into an old content, which leaves a new one: all its notes are added, those of its
-- packets and the head of the one that its end cuts, and the report is that of the whole piece. Or, out of memory,
-- those of its first `noted` packets are added and nothing else, and the packet of the next note, which there is,
-- begins at `at`.
abbrev pub Absorbs : List NoteParts → List NoteParts → ℕ → List ℕ → Result Report AbsorbFault → Type 0
Absorbs old new offset bytes (Ok report) =
    (new ≡ reduced_union old (notes_in offset bytes)) × (report ≡ report_of offset bytes)
Absorbs old new offset bytes (Err (OutOfMemory noted at)) =
    (new ≡ reduced_union old (first_notes_in noted offset bytes)) × GoesOnAt noted offset bytes at
Absorbs old new offset bytes (Err (ReadFault noted at)) = ⊥

-- The history with the call: it was handed the notes of the piece, or out of memory those of its first `noted`
-- packets.
abbrev pub history_with : History → ℕ → List ℕ → Result Report AbsorbFault → History
history_with h offset bytes (Ok report) = Absorb h offset bytes
history_with h offset bytes (Err (OutOfMemory noted at)) = Cut h offset bytes noted
history_with h offset bytes (Err (ReadFault noted at)) = Cut h offset bytes noted

-- The notes of the first `noted` packets of a piece are added and nothing else, and the next begins at a place.
pub record AddsFirst (old new : List NoteParts) (offset : ℕ) (bytes : List ℕ) (noted at : ℕ) : Type 0 where
  pub within : noted ≤ length (packets_in offset bytes)
  pub added : new ≡ reduced_union old (first_notes_in noted offset bytes)
  pub place : at ≡ end_after offset (take noted (packets_in offset bytes))

-- The notes of a piece whose bytes came in parts, after the last of them: all of them, and the report; or, if the head
-- found no memory, those of its packets.
abbrev pub Finishes : ℕ → List ℕ → List NoteParts → Result Report AbsorbFault → Type 0
Finishes offset bytes notes (Ok report) = Absorbs [] notes offset bytes (Ok report)
Finishes offset bytes notes (Err (OutOfMemory noted at)) = AddsFirst [] notes offset bytes noted at
Finishes offset bytes notes (Err (ReadFault noted at)) = ⊥

-- A piece that a reader gives is absorbed. The bytes taken, at most `limit`, are absorbed as a piece at hand; if it
-- could go on, as many were taken as may be, or the reader has ended. Or a read failed when it could go on: the notes
-- of all packets among the bytes taken are added, and no head. Or out of memory: those of the first `noted` of them
-- are.
abbrev pub AbsorbsFrom : List NoteParts → List NoteParts → Option (List ℕ) → Option (List ℕ) → ℕ → ℕ
    → Result Report AbsorbFault → Type 0
AbsorbsFrom old new before after offset limit (Ok report) =
    (taken : List ℕ) × Takes before after limit taken × Absorbs old new offset taken (Ok report)
    × (IsOpen report.stop → (length taken ≡ limit) ⊎ IsAtEnd after)
AbsorbsFrom old new before after offset limit (Err (ReadFault noted at)) =
    (taken : List ℕ) × Takes before after limit taken × AddsFirst old new offset taken noted at
    × (noted ≡ length (packets_in offset taken)) × IsOpen (stop_in offset taken)
AbsorbsFrom old new before after offset limit (Err (OutOfMemory noted at)) =
    (taken : List ℕ) × Takes before after limit taken × AddsFirst old new offset taken noted at
