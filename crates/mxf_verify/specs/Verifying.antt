-- A reference beside sources: what is the same, what differs, and what wasn't compared (this project's profile). Bytes
-- are read by the notes of the reference: no packet is looked for in them.
use Rattle.std.specs.Prelude.{◌≡◌, ◌+◌, ◌-◌, ◌<◌, ◌≤◌, ℕ, Bool, IsTrue, not, ◌&&◌, if◌then◌else◌, List, ◌++◌, length}
use Rattle.std.specs.Prelude.{take, drop}
use Rattle.sha2.specs.Sha256.{sha256}
use Rattle.mxf_klv.specs.Parts.{NoteParts}
use Rattle.mxf_klv.specs.Ber.{length_bytes}
use Rattle.mxf_klv.specs.Note.{IsCovered, covered_end, head_note, keeps_value}
use Rattle.mxf_klv.specs.Rising.{In}
use Rattle.mxf_catalogue.specs.Content.{has_note}
use Rattle.mxf_catalogue.specs.Disputes.{IsDisputed}
use Rattle.mxf_verify.specs.Comparing.{Contradicts, SharesHeldByte}

-- What stands ahead of the value: the key, and the length in its width.
abbrev pub front_bytes : NoteParts → List ℕ
front_bytes n = n.key ++ length_bytes n.width n.length

-- How many bytes that is.
abbrev pub front_size : NoteParts → ℕ
front_size n = 16 + n.width

-- How many bytes a note holds: all of a packet that was read whole, key and length of a head.
abbrev pub held_size : NoteParts → ℕ
held_size n = if n.whole then front_size n + n.length else front_size n

-- Those of the bytes from an offset on that the note holds.
unfoldable pub held_in : NoteParts → ℕ → List ℕ → List ℕ
held_in n offset bytes = take (held_size n) (drop (n.offset - offset) bytes)

-- The value is the one that the note keeps, or one of its digest.
abbrev pub IsValueOf : NoteParts → List ℕ → Type 0
IsValueOf n value = (if keeps_value n then value else sha256 value) ≡ n.held

-- The bytes, as many as the note holds, are what it says: its key and its length, and after those of a packet that was
-- read whole the value that it knows.
pub record IsSaidBy (n : NoteParts) (bytes : List ℕ) : Type 0 where
  pub front : take (front_size n) bytes ≡ front_bytes n
  pub value : IsTrue n.whole → IsValueOf n (drop (front_size n) bytes)

-- The note knows the digest of its value, and not the value.
unfoldable pub is_digested : NoteParts → Bool
is_digested n = n.whole && not (keeps_value n)

-- What a reference is compared with: bytes, the first of which lies at an offset; or the notes of a catalogue.
pub data Source : Type 0 where
  Bytes : ℕ → List ℕ → Source
  Saved : List NoteParts → Source

-- All bytes that the note holds are among the bytes from an offset on.
pub record IsAmong (n : NoteParts) (offset : ℕ) (bytes : List ℕ) : Type 0 where
  pub from : offset ≤ n.offset
  pub to : covered_end n ≤ offset + length bytes

-- A disputed note of the reference whose value isn't kept. It isn't compared with bytes, so one digest runs at a time.
abbrev pub IsCrowded : List NoteParts → NoteParts → Type 0
IsCrowded reference n = IsDisputed n reference × IsTrue (is_digested n)

-- The note is compared with the bytes.
pub record IsCompared (reference : List NoteParts) (n : NoteParts) (offset : ℕ) (bytes : List ℕ) : Type 0 where
  pub free : ¬ IsCrowded reference n
  pub among : IsAmong n offset bytes

-- The source has the note: it was compared and its bytes are as it says; or the catalogue has it.
abbrev pub IsSameIn : List NoteParts → NoteParts → Source → Type 0
IsSameIn reference n (Bytes offset bytes) = IsCompared reference n offset bytes × IsSaidBy n (held_in n offset bytes)
IsSameIn reference n (Saved notes) = has_note notes n

-- The note differs there: it was compared and its bytes are others, and no byte of it is one of a note that is the same
-- there; or a note of the catalogue that the reference hasn't contradicts it.
abbrev pub DiffersIn : List NoteParts → NoteParts → Source → Type 0
DiffersIn reference n (Bytes offset bytes) =
    IsCompared reference n offset bytes × ¬ IsSaidBy n (held_in n offset bytes)
    × ((m : NoteParts) → In m reference → IsSameIn reference m (Bytes offset bytes) → ¬ SharesHeldByte m n)
DiffersIn reference n (Saved notes) =
    (m : NoteParts) × In m notes × ¬ has_note reference m × Contradicts m n

-- Some of the bytes that the note holds are the source's; of a catalogue, its head is.
abbrev pub TouchesIn : NoteParts → Source → Type 0
TouchesIn n (Bytes offset bytes) =
    (at : ℕ) × IsCovered n at × (offset ≤ at) × (at < offset + length bytes)
TouchesIn n (Saved notes) = IsTrue n.whole × In (head_note n) notes

-- A note holds the byte at the offset.
abbrev pub IsHeldBy : List NoteParts → ℕ → Type 0
IsHeldBy notes at = (n : NoteParts) × In n notes × IsCovered n at

-- The offset is one of the source's bytes: of a catalogue, of those that its notes hold.
abbrev pub IsByteOf : Source → ℕ → Type 0
IsByteOf (Bytes offset bytes) at = (offset ≤ at) × (at < offset + length bytes)
IsByteOf (Saved notes) at = IsHeldBy notes at

module _ (reference : List NoteParts) (sources : List Source) where
  -- Some source has the note of the reference.
  abbrev pub IsVerified : NoteParts → Type 0
  IsVerified n = (s : Source) × In s sources × IsSameIn reference n s

  -- It differs in some source.
  abbrev pub IsDiffering : NoteParts → Type 0
  IsDiffering n = (s : Source) × In s sources × DiffersIn reference n s

  -- It wasn't compared: neither of these; not all of its bytes are one source's, and some are.
  pub record IsCut (n : NoteParts) : Type 0 where
    pub unverified : ¬ IsVerified n
    pub undiffering : ¬ IsDiffering n
    pub apart : (offset : ℕ) (bytes : List ℕ) → In (Bytes offset bytes) sources → ¬ IsAmong n offset bytes
    pub touched : (s : Source) × In s sources × TouchesIn n s

  -- The offset is a byte of a verified note; of a differing one; of one that is neither; or of a source and of no note.
  abbrev pub IsVerifiedByte : ℕ → Type 0
  IsVerifiedByte at = (n : NoteParts) × In n reference × IsVerified n × IsCovered n at

  abbrev pub IsDifferingByte : ℕ → Type 0
  IsDifferingByte at = (n : NoteParts) × In n reference × IsDiffering n × IsCovered n at

  abbrev pub IsUnverifiedByte : ℕ → Type 0
  IsUnverifiedByte at = IsHeldBy reference at × ¬ IsVerifiedByte at × ¬ IsDifferingByte at

  abbrev pub IsUnknownByte : ℕ → Type 0
  IsUnknownByte at = ((s : Source) × In s sources × IsByteOf s at) × ¬ IsHeldBy reference at
