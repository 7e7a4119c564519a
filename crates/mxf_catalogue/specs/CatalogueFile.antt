-- The file of a catalogue (this project's profile): sixteen bytes that give the format, its version and the number of
-- notes, then the notes, each above the one before. A note is a fixed part of 33 bytes, a mark of one byte and what the
-- note holds. Version 1 has no marks, and so no heads.
use Rattle.std.specs.Prelude.{◌≡◌, ◌≢◌, ◌==◌, ℕ, ◌+◌, ◌^◌, ◌<◌, ◌≤◌, ◌⊎◌, Bool, if◌then◌else◌, List, [], ◌∷◌, ◌++◌}
use Rattle.std.specs.Prelude.{length, take, flat_map, slice_get, IsSomeAnd, IfSome, IsTrue, Result, Ok, Err}
use Rattle.std.specs.List.{AllByRecursion}
use Rattle.std.specs.Int.{w64, to_be_bytes}
use Rattle.mxf_klv.specs.Parts.{CanSpell, NoteParts}
use Rattle.mxf_klv.specs.Label.{IsLabel}
use Rattle.mxf_klv.specs.Note.{IsNote, head_note, keeps, greatest_end}
use Rattle.mxf_catalogue.specs.Content.{AreReduced, IsCatalogue, IsContent}
use Rattle.mxf_catalogue.specs.declared.catalogue.file.fixed_part.FixedPart.{FixedPart}
use Rattle.mxf_catalogue.specs.declared.catalogue.file.start.Version.{Version}
use Rattle.mxf_catalogue.specs.declared.catalogue.file.start.Version.TheVariants.{One, Two}
use Rattle.mxf_catalogue.specs.declared.catalogue.file.FileFault.{FileFault}
use Rattle.mxf_catalogue.specs.declared.catalogue.file.FileFault.TheVariants as faults

-- What each file begins with: `MXFCAT` and a zero byte.
abbrev pub magic : List ℕ
magic = 0x4D ∷ 0x58 ∷ 0x46 ∷ 0x43 ∷ 0x41 ∷ 0x54 ∷ 0x00 ∷ []

-- The byte after it, which gives the version.
abbrev pub version_byte : Version → ℕ
version_byte One = 1
version_byte Two = 2

-- No version has this byte.
abbrev pub IsUnknownVersion : ℕ → Type 0
IsUnknownVersion byte = (version : Version) → byte ≢ version_byte version

-- A version has this byte.
abbrev pub IsKnownVersion : ℕ → Type 0
IsKnownVersion byte = (version : Version) × (byte ≡ version_byte version)

-- A number in eight bytes, the highest first.
unfoldable pub number_bytes : ℕ → List ℕ
number_bytes n = to_be_bytes w64 n

-- The sixteen bytes ahead of the notes, which give the version and how many notes there are.
abbrev pub start_bytes : Version → ℕ → List ℕ
start_bytes version count = magic ++ (version_byte version ∷ number_bytes count)

-- Each part of a fixed part fits the bytes that it has.
pub record IsFixedPart (f : FixedPart) : Type 0 where
  pub offset : f.offset < 2 ^ 64
  pub key : length f.key ≡ 16
  pub width : f.width < 2 ^ 8
  pub length : f.length < 2 ^ 64

-- The 33 bytes of a fixed part: offset, key, width and length.
abbrev pub fixed_bytes : FixedPart → List ℕ
fixed_bytes f = number_bytes f.offset ++ (f.key ++ (f.width ∷ number_bytes f.length))

-- A note can have the fixed part: its key is a label, its width can spell its length, and it ends at or below the
-- greatest end.
pub record CanBeNoted (f : FixedPart) : Type 0 where
  pub label : IsLabel f.key
  pub width : CanSpell f.width f.length
  pub within : f.offset + 16 + f.width + f.length ≤ greatest_end

-- The mark of a note: 0 of a packet that was read whole, 1 of one whose key and length alone were read.
abbrev pub mark_of : Bool → ℕ
mark_of whole = if whole then 0 else 1

-- The bytes of a mark: none in version 1.
abbrev pub mark_bytes : Version → ℕ → List ℕ
mark_bytes One mark = []
mark_bytes Two mark = mark ∷ []

-- What the mark is if the version has none: that of a whole packet.
abbrev pub IsMarkIn : Version → ℕ → Type 0
IsMarkIn One mark = mark ≡ 0
IsMarkIn Two mark = Unit {0}

-- How many bytes of a note stand ahead of what it holds: the fixed part and the mark.
abbrev pub length_ahead : Version → ℕ
length_ahead One = 33
length_ahead Two = 34

-- A file of the version can have the note: one of version 1 has no heads.
abbrev pub CanHave : Version → NoteParts → Type 0
CanHave One n = IsTrue n.whole
CanHave Two n = Unit {0}

-- A note can have the fixed part and the mark.
abbrev pub CanBeMarked : FixedPart → ℕ → Type 0
CanBeMarked f mark = CanBeNoted f × (mark ≤ 1)

-- How many bytes a note with this fixed part and this mark holds.
abbrev pub held_length : FixedPart → ℕ → ℕ
held_length f mark = if mark == 0 then (if keeps f.key f.length then f.length else 32) else 0

abbrev pub fixed_part_of : NoteParts → FixedPart
fixed_part_of n = record { offset = n.offset; key = n.key; width = n.width; length = n.length }

-- The bytes of a note: its fixed part, its mark, then what it holds.
abbrev pub note_bytes : Version → NoteParts → List ℕ
note_bytes version n = fixed_bytes (fixed_part_of n) ++ (mark_bytes version (mark_of n.whole) ++ n.held)

-- The bytes of the file of a content in a version.
abbrev pub version_bytes : Version → List NoteParts → List ℕ
version_bytes version notes = start_bytes version (length notes) ++ flat_map (note_bytes version) notes

-- The bytes of the file that is written of a content: that of version 2.
abbrev pub file_bytes : List NoteParts → List ℕ
file_bytes notes = version_bytes Two notes

-- The bytes are the file of the notes in the version: these are a reduced content of fewer than 2^64 notes that the
-- version can have.
pub record IsFileOfVersion (version : Version) (bytes : List ℕ) (notes : List NoteParts) : Type 0 where
  pub catalogue : IsCatalogue notes
  pub reduced : AreReduced notes
  pub can_have : AllByRecursion (CanHave version) notes
  pub fits : length notes < 2 ^ 64
  pub whole : bytes ≡ version_bytes version notes

-- The bytes are the file of the notes, in one of the versions.
abbrev pub IsFileOf : List ℕ → List NoteParts → Type 0
IsFileOf bytes notes = (version : Version) × IsFileOfVersion version bytes notes

-- The bytes begin with a fixed part, and the rest follows it.
pub record BeginsWithFixedPart (bytes : List ℕ) (f : FixedPart) (rest : List ℕ) : Type 0 where
  pub fixed : IsFixedPart f
  pub whole : bytes ≡ fixed_bytes f ++ rest

-- The bytes begin with a mark of the version, and the rest follows it.
pub record BeginsWithMark (version : Version) (bytes : List ℕ) (mark : ℕ) (rest : List ℕ) : Type 0 where
  pub marked : IsMarkIn version mark
  pub whole : bytes ≡ mark_bytes version mark ++ rest

-- The bytes begin with a fixed part and a mark of the version, and the rest follows them.
pub record BeginsWithParts (version : Version) (bytes : List ℕ) (f : FixedPart) (mark : ℕ) (rest : List ℕ)
    : Type 0 where
  pub fixed : IsFixedPart f
  pub marked : IsMarkIn version mark
  pub whole : bytes ≡ fixed_bytes f ++ (mark_bytes version mark ++ rest)

-- The bytes begin with a note that the version can have, and the rest follows it.
pub record BeginsWithNote (version : Version) (bytes : List ℕ) (n : NoteParts) (rest : List ℕ) : Type 0 where
  pub note : IsNote n
  pub can_have : CanHave version n
  pub whole : bytes ≡ note_bytes version n ++ rest

-- The fixed part and the mark at the front aren't whole, or a note can have them and what the note holds isn't whole.
abbrev pub IsCutNote : Version → List ℕ → Type 0
IsCutNote version bytes =
    (length bytes < length_ahead version)
    ⊎ ((f : FixedPart) × (mark : ℕ) × (rest : List ℕ) × BeginsWithParts version bytes f mark rest × CanBeMarked f mark
    × (length rest < held_length f mark))

-- The fixed part and the mark at the front are whole, and no note can have them.
abbrev pub IsBadNote : Version → List ℕ → Type 0
IsBadNote version bytes =
    (f : FixedPart) × (mark : ℕ) × (rest : List ℕ) × BeginsWithParts version bytes f mark rest × ¬ CanBeMarked f mark

-- A note stands at the front, and with it the notes before it don't go on rising.
abbrev pub IsUnsortedNote : Version → List NoteParts → List ℕ → Type 0
IsUnsortedNote version notes bytes =
    (n : NoteParts) × (rest : List ℕ) × BeginsWithNote version bytes n rest × ¬ IsContent (notes ++ n ∷ [])

-- The last of the notes is the head of the note.
abbrev pub IsHeadLast : List NoteParts → NoteParts → Type 0
IsHeadLast notes n = (front : List NoteParts) × (notes ≡ front ++ head_note n ∷ [])

-- A note stands at the front, with it the notes before it go on rising, and the last of these is its head.
abbrev pub IsUnreducedNote : Version → List NoteParts → List ℕ → Type 0
IsUnreducedNote version notes bytes =
    (n : NoteParts) × (rest : List ℕ) × BeginsWithNote version bytes n rest × IsContent (notes ++ n ∷ [])
    × IsHeadLast notes n

-- The bytes begin as a file of the version that states a count, with whole rising reduced notes that the version can
-- have, no more than it states, and the rest follows them.
pub record IsFront (version : Version) (bytes : List ℕ) (count : ℕ) (notes : List NoteParts) (rest : List ℕ)
    : Type 0 where
  pub catalogue : IsCatalogue notes
  pub reduced : AreReduced notes
  pub can_have : AllByRecursion (CanHave version) notes
  pub room : length notes ≤ count
  pub fits : count < 2 ^ 64
  pub whole : bytes ≡ start_bytes version count ++ (flat_map (note_bytes version) notes ++ rest)

-- The place of what follows the notes of a front.
abbrev pub place_after : Version → List NoteParts → ℕ
place_after version notes = 16 + length (flat_map (note_bytes version) notes)

-- A front ends at the place, and there is a cause in what follows it: the version and the count of the file, the notes
-- of the front and the rest.
pub record StopsAt (bytes : List ℕ) (place : ℕ) (cause : Version → ℕ → List NoteParts → List ℕ → Type 0) : Type 0 where
  pub version : Version
  pub count : ℕ
  pub notes : List NoteParts
  pub rest : List ℕ
  pub front : IsFront version bytes count notes rest
  pub stands : place ≡ place_after version notes
  pub why : cause version count notes rest

-- As far as there are bytes, they begin as a file does.
abbrev pub BeginsAsFile : List ℕ → Type 0
BeginsAsFile bytes = take 7 bytes ≡ take (length bytes) magic

-- Why bytes are no file, one cause a fault. Notes are looked at one after another, so a fault follows a front of whole
-- rising notes. That the memory ran out says nothing of the bytes.
abbrev pub IsRefused : List ℕ → FileFault → Type 0
IsRefused bytes faults.BadMagic = ¬ BeginsAsFile bytes
IsRefused bytes faults.BadVersion = BeginsAsFile bytes × IsSomeAnd (slice_get bytes 7) IsUnknownVersion
IsRefused bytes (faults.Truncated p) =
    ((p ≡ 0) × BeginsAsFile bytes × IfSome (slice_get bytes 7) IsKnownVersion × (length bytes < 16))
    ⊎ StopsAt bytes p (λ version count notes rest. (length notes < count) × IsCutNote version rest)
IsRefused bytes (faults.BadNote p) = StopsAt bytes p (λ version count notes rest. (length notes < count)
    × IsBadNote version rest)
IsRefused bytes (faults.NotSorted p) =
    StopsAt bytes p (λ version count notes rest. (length notes < count) × IsUnsortedNote version notes rest)
IsRefused bytes (faults.NotReduced p) =
    StopsAt bytes p (λ version count notes rest. (length notes < count) × IsUnreducedNote version notes rest)
IsRefused bytes (faults.Trailing p) =
    StopsAt bytes p (λ version count notes rest. (length notes ≡ count) × (0 < length rest))
IsRefused bytes faults.OutOfMemory = Unit {0}

-- What bytes are: the file of a content, or none for a fault.
abbrev pub ReadsFile : List ℕ → Result (List NoteParts) FileFault → Type 0
ReadsFile bytes (Ok notes) = IsFileOf bytes notes
ReadsFile bytes (Err fault) = IsRefused bytes fault
