-- What reads of a source come to (this project's profile).
use Rattle.std.specs.Prelude.{◌≡◌, ◌+◌, ◌<◌, ◌≤◌, ◌⊎◌, ℕ, List, [], ◌∷◌, ◌++◌, length, drop, filter, slice_index_or}
use Rattle.std.specs.Prelude.{IsTrue, Option, None, Some}
use Rattle.std.specs.List.{AllWithin}
use Rattle.std.specs.Io.KnownBytes.{Consumes, IsAtEnd}
use denote.Bor.{Bor}
use Rattle.sha2.specs.Hashers.{Holds256}
use Rattle.sha2.specs.Sha256.{sha256}
use Rattle.sha2.specs.declared.Sha256.{Sha256}
use Rattle.mxf_klv.specs.Parts.{NoteParts}
use Rattle.mxf_klv.specs.Note.{covered_end}
use Rattle.mxf_verify.specs.Agreeing.{value_part}
use Rattle.mxf_verify.specs.Verifying.{is_digested}
use Rattle.mxf_verify.specs.Taking.{HasTaken, value_in}
use Rattle.mxf_verify.specs.declared.candidate.Candidate.{Candidate}
use Rattle.mxf_verify.specs.declared.comparison.Comparison.{Comparison}
use Rattle.mxf_verify.specs.declared.reading.Reading.{Reading}

-- A candidate that knows a digest has ended where each later one begins.
abbrev pub AreApart : List Candidate → Type 0
AreApart candidates =
    (i j : ℕ) (d : Candidate) → i < j → j < length candidates
    → IsTrue (is_digested (slice_index_or candidates i d).note.now)
    → covered_end (slice_index_or candidates i d).note.now ≤ (slice_index_or candidates j d).note.now.offset

-- The same of notes.
abbrev pub StandApart : List (Bor NoteParts) → Type 0
StandApart notes =
    (i j : ℕ) (e : Bor NoteParts) → i < j → j < length notes → IsTrue (is_digested (slice_index_or notes i e).now)
    → covered_end (slice_index_or notes i e).now ≤ (slice_index_or notes j e).now.offset

-- A hasher has taken what came of the value of the note at the place. Without one nothing came of a value from there on.
abbrev pub HasDigested : ℕ → List ℕ → ℕ → List (Bor NoteParts) → Option Sha256 → Type 0
HasDigested offset bytes next notes None =
    AllWithin (λ x. IsTrue (is_digested x.now) → value_in x.now offset bytes ≡ []) notes next (length notes)
HasDigested offset bytes next notes (Some hasher) =
    (next < length notes)
    × ((e : Bor NoteParts) → Holds256 hasher (value_in (slice_index_or notes next e).now offset bytes))

-- Bytes of a source came, the first of which lies at an offset. The notes were compared with them. Of those that know a
-- digest, it was compared of the ones before `next`, and the others end behind a front of the bytes.
pub record HasCompared (offset : ℕ) (front bytes : List ℕ) (notes : List (Bor NoteParts)) (next : ℕ) (c : Comparison)
    : Type 0 where
  pub apart : StandApart notes
  pub taken : HasTaken offset bytes next notes c
  pub left : AllWithin (λ x. IsTrue (is_digested x.now) → offset + length front < covered_end x.now) notes next
      (length notes)

-- The same, and a hasher has taken what the front has of the next value.
pub record HasRead (offset : ℕ) (front bytes : List ℕ) (notes : List (Bor NoteParts)) (r : Reading) : Type 0 where
  pub compared : HasCompared offset front bytes notes r.next r.comparison
  pub digest : HasDigested offset front r.next notes r.hasher

-- Further bytes came.
abbrev pub Reads : Reading → Reading → List ℕ → Type 0
Reads old new more =
    (offset : ℕ) (bytes : List ℕ) (notes : List (Bor NoteParts))
    → HasRead offset bytes bytes notes old → HasRead offset (bytes ++ more) (bytes ++ more) notes new

-- Further bytes came, the first of which lies at an offset, and digests of more notes were compared.
abbrev pub Tells : ℕ → List ℕ → Reading → Reading → Type 0
Tells at more old new =
    (offset : ℕ) (front : List ℕ) (notes : List (Bor NoteParts)) → offset + length front ≡ at
    → HasRead offset front (front ++ more) notes old → HasRead offset front (front ++ more) notes new

-- The same, of all notes that end with these bytes, and a hasher has taken what they have of the next value.
abbrev pub EndsFront : ℕ → List ℕ → Reading → Reading → Type 0
EndsFront at more old new =
    (offset : ℕ) (front : List ℕ) (notes : List (Bor NoteParts)) → offset + length front ≡ at
    → HasRead offset front (front ++ more) notes old → HasRead offset (front ++ more) (front ++ more) notes new

-- The digest was compared with the next note, all of which came. It is that of its value.
abbrev pub Says : Reading → Reading → List ℕ → Type 0
Says old new digest =
    (offset : ℕ) (front bytes : List ℕ) (notes : List (Bor NoteParts)) (e : Bor NoteParts)
    → HasCompared offset front bytes notes old.next old.comparison
    → covered_end (slice_index_or notes old.next e).now ≤ offset + length bytes
    → digest ≡ sha256 (value_in (slice_index_or notes old.next e).now offset bytes)
    → HasRead offset front bytes notes new

-- The note is that of the next candidate.
pub record IsNext (r : Reading) (n : Bor NoteParts) : Type 0 where
  pub within : r.next < length r.comparison.candidates.items
  pub named : (d : Candidate) → (slice_index_or r.comparison.candidates.items r.next d).note ≡ n

-- Those of the notes from a place on that know a digest.
abbrev pub digested_from : ℕ → List (Bor NoteParts) → List (Bor NoteParts)
digested_from place notes = filter (λ (x : Bor NoteParts). is_digested x.now) (drop place notes)

-- The first of the notes end with further bytes, the first of which lies at an offset. This is what these have of their
-- values.
abbrev pub AreValuesOf : ℕ → List ℕ → List (Bor NoteParts) → List (List ℕ) → Type 0
AreValuesOf at bytes notes [] = Unit {0}
AreValuesOf at bytes [] (v ∷ values) = ⊥
AreValuesOf at bytes (x ∷ notes) (v ∷ values) =
    (covered_end x.now ≤ at + length bytes) × (v ≡ value_part x.now at bytes) × AreValuesOf at bytes notes values

-- So many further bytes of a source came, none only at its end, and no byte behind an offset.
pub record ReadsSome (before after : Option (List ℕ)) (old new : Reading) (end count : ℕ) : Type 0 where
  pub more : List ℕ
  pub consumed : Consumes before after more
  pub reads : Reads old new more
  pub counted : length more ≡ count
  pub at : new.comparison.at ≡ old.comparison.at + count
  pub within : new.comparison.at ≤ end
  pub ended : count ≡ 0 → IsAtEnd after

-- A source was read up to an offset, or to its end.
pub record ReadsSource (before after : Option (List ℕ)) (old new : Reading) (end : ℕ) : Type 0 where
  pub more : List ℕ
  pub consumed : Consumes before after more
  pub reads : Reads old new more
  pub at : new.comparison.at ≡ old.comparison.at + length more
  pub within : new.comparison.at ≤ end
  pub ended : (new.comparison.at ≡ end) ⊎ IsAtEnd after
