-- What the parts of a run hold together, and what is at fault in one (this project's profile). A reader is known by the
-- bytes that it has left, if these are known.
use Rattle.std.specs.Prelude.{◌≡◌, ◌≢◌, ℕ, ◌+◌, ◌<◌, ◌≤◌, ◌⊎◌, List, [], ◌∷◌, ◌++◌, length, take, slice_get, IsSome}
use Rattle.std.specs.Prelude.{unwrap_or, Option, Some}
use Rattle.std.specs.List.{AllByRecursion}
use Rattle.mxf_klv.specs.Parts.{NoteParts}
use Rattle.mxf_klv.specs.Rising.{In}
use Rattle.mxf_klv.specs.PieceReading.{notes_in}
use Rattle.mxf_catalogue.specs.CatalogueFile.{IsFileOf, IsRefused}
use Rattle.mxf_catalogue.specs.History.{History, New, Add, Join, Read, Absorb, Cut, Of, content}
use Rattle.mxf_catalogue.specs.declared.catalogue.file.FileFault.TheVariants as files
use Rattle.mxf_read.specs.Absorbs.{report_of}
use Rattle.mxf_read.specs.Ranges.{LeavesTheRest, piece_bytes, piece_offset, range_notes, range_report}
use Rattle.mxf_read.specs.Reads.{Takes}
use Rattle.mxf_read.specs.declared.gathering.part.Part.{Part}
use Rattle.mxf_read.specs.declared.gathering.part.Part.TheVariants.{Piece, Range, Saved}
use Rattle.mxf_read.specs.declared.gathering.report.PieceReport.{PieceReport}
use Rattle.mxf_read.specs.declared.gathering.fault.PartFault.{PartFault}
use Rattle.mxf_read.specs.declared.gathering.fault.PartFault.TheVariants.{ReadFault, TooLong, Catalogue, OutOfMemory}
use Rattle.mxf_read.specs.declared.gathering.fault.GatherFault.{GatherFault}
use Rattle.mxf_read.specs.Levels.{Adds}

-- The bytes that are read of one piece or range, at most.
abbrev pub piece_limit : ℕ
piece_limit = 1099511627776

-- The bytes that the file of a catalogue has, at most.
abbrev pub saved_limit : ℕ
saved_limit = 1073741824

-- The faults that a part of any sort may have.
abbrev pub IsOfAnyPart : PartFault → Type 0
IsOfAnyPart ReadFault = Unit {0}
IsOfAnyPart OutOfMemory = Unit {0}
IsOfAnyPart TooLong = ⊥
IsOfAnyPart (Catalogue fault) = ⊥

-- The fault is one of a saved catalogue with these bytes.
abbrev pub IsSavedFault : List ℕ → PartFault → Type 0
IsSavedFault bytes ReadFault = Unit {0}
IsSavedFault bytes OutOfMemory = Unit {0}
IsSavedFault bytes TooLong = saved_limit < length bytes
IsSavedFault bytes (Catalogue fault) =
    (length bytes ≤ saved_limit) × (fault ≢ files.OutOfMemory) × IsRefused bytes fault

-- The bytes are a saved catalogue with this content.
abbrev pub IsSavedAs : List ℕ → List NoteParts → Type 0
IsSavedAs bytes notes = (length bytes ≤ saved_limit) × IsFileOf bytes notes

module _ {R : Type 0} (left : R → Option (List ℕ)) where
  -- The bytes that the reader of the part has left are known.
  abbrev pub Tells : Part R → Type 0
  Tells (Piece offset from) = IsSome (left from)
  Tells (Range offset from) = IsSome (left from)
  Tells (Saved from) = IsSome (left from)

  -- Those of the readers of all parts are.
  abbrev pub AllTell : List (Part R) → Type 0
  AllTell parts = AllByRecursion Tells parts

  -- The bytes that a reader gives.
  abbrev pub bytes_of : R → List ℕ
  bytes_of from = unwrap_or (left from) []

  -- The first of them, which are read of a piece or a range.
  abbrev pub piece_of : R → List ℕ
  piece_of from = take piece_limit (bytes_of from)

  -- The part is a piece that lies at an offset and has these bytes; or a range with this piece. Without a start that is
  -- no byte.
  abbrev pub IsPieceOf : Part R → ℕ → List ℕ → Type 0
  IsPieceOf (Piece at from) offset bytes = (offset ≡ at) × (bytes ≡ piece_of from)
  IsPieceOf (Range at from) offset bytes =
      (offset ≡ piece_offset at (piece_of from)) × (bytes ≡ piece_bytes at (piece_of from))
  IsPieceOf (Saved from) offset bytes = ⊥

  -- The part hands the note: a piece the notes of its packets and its head, a range those of its piece, a saved
  -- catalogue those of the content that it is the file of.
  abbrev pub HandsNote : Part R → NoteParts → Type 0
  HandsNote (Piece offset from) n = In n (notes_in offset (piece_of from))
  HandsNote (Range offset from) n = In n (range_notes offset (piece_of from))
  HandsNote (Saved from) n = (notes : List NoteParts) × IsFileOf (bytes_of from) notes × In n notes

  -- One of the parts hands the note.
  abbrev pub HandedBy : List (Part R) → NoteParts → Type 0
  HandedBy [] n = ⊥
  HandedBy (p ∷ parts) n = HandsNote p n ⊎ HandedBy parts n

  -- What was read of a part's reader: of a piece no more than its limit, of a range without a start no byte after its
  -- window, and of a saved catalogue one byte more than its limit at most.
  abbrev pub LeavesOfPart : Part R → Part R → Type 0
  LeavesOfPart (Piece offset from) (Piece at to) = (taken : List ℕ) × Takes (left from) (left to) piece_limit taken
  LeavesOfPart (Range offset from) (Range at to) = LeavesTheRest offset (left from) (left to)
  LeavesOfPart (Saved from) (Saved to) = (taken : List ℕ) × Takes (left from) (left to) (saved_limit + 1) taken
  LeavesOfPart part other = ⊥

  -- The history is handed the parts and nothing else, each of them once and in their order: it absorbs a piece, or that
  -- of a range, after what it gathered before, reads a saved catalogue, and joins.
  abbrev pub Gathers : History → List (Part R) → Type 0
  Gathers New parts = parts ≡ []
  Gathers (Add h n) parts = ⊥
  Gathers (Join h k) parts =
      (front : List (Part R)) × (back : List (Part R)) × (parts ≡ front ++ back) × Gathers h front × Gathers k back
  Gathers (Read bytes notes is) parts = (from : R) × (parts ≡ Saved from ∷ []) × (bytes ≡ bytes_of from)
  Gathers (Absorb h offset bytes) parts =
      (front : List (Part R)) × (piece : Part R) × (parts ≡ front ++ piece ∷ []) × IsPieceOf piece offset bytes
      × Gathers h front
  Gathers (Cut h offset bytes noted) parts = ⊥
  Gathers (Of h) parts = Gathers h parts

  -- A history that gathers the parts leaves the notes.
  abbrev pub IsLeftBy : List (Part R) → List NoteParts → Type 0
  IsLeftBy parts notes = (h : History) × Gathers h parts × (notes ≡ content h)

  -- What is reported of the part with a number: of a piece its offset, the number of its packets and its stop; of a
  -- range that of its piece, or that it has no start.
  abbrev pub reports_in : ℕ → Part R → List PieceReport
  reports_in part (Piece offset from) =
      record { part = part; offset = offset; report = report_of offset (piece_of from) } ∷ []
  reports_in part (Range offset from) = range_report part offset (piece_of from) ∷ []
  reports_in part (Saved from) = []

  -- The reports of pieces and ranges, in their order, if the parts are numbered from a number on.
  abbrev pub reports_from : ℕ → List (Part R) → List PieceReport
  reports_from number [] = []
  reports_from number (p ∷ parts) = reports_in number p ++ reports_from (number + 1) parts

  -- The same, from 0 on.
  abbrev pub reports_of : List (Part R) → List PieceReport
  reports_of parts = reports_from 0 parts

  -- A saved part is the file of a content, and not too long.
  abbrev pub IsGood : Part R → Type 0
  IsGood (Piece offset from) = Unit {0}
  IsGood (Range offset from) = Unit {0}
  IsGood (Saved from) = (notes : List NoteParts) × IsSavedAs (bytes_of from) notes

  -- The part has the fault.
  abbrev pub HasFault : PartFault → Part R → Type 0
  HasFault fault (Piece offset from) = IsOfAnyPart fault
  HasFault fault (Range offset from) = IsOfAnyPart fault
  HasFault fault (Saved from) = IsSavedFault (bytes_of from) fault

  -- The part with a number was taken: what it leaves was added to the contents that wait to be merged, and its reports
  -- stand after those before.
  pub record TakesPart (number : ℕ) (p : Part R) (old new : List (List NoteParts)) (before after : List PieceReport)
      : Type 0 where
    pub notes : List NoteParts
    pub left_by : IsLeftBy (p ∷ []) notes
    pub added : Adds old notes new
    pub reported : after ≡ before ++ reports_in number p
    pub good : IsGood p

  -- The fault is one of the part with its number, and each saved part before it is good.
  pub record IsGatherFault (parts : List (Part R)) (fault : GatherFault) : Type 0 where
    pub at_fault : Part R
    pub numbered : slice_get parts fault.part ≡ Some at_fault
    pub has : HasFault fault.fault at_fault
    pub before : AllByRecursion IsGood (take fault.part parts)
