-- What is known of the candidates after bytes of a source came (this project's profile).
use Rattle.std.specs.Prelude.{◌≡◌, ◌+◌, ◌≤◌, ◌&&◌, ◌||◌, not, ℕ, Bool, IsTrue, List, ◌++◌, length, map, take, drop}
use Rattle.std.specs.List.{AllWithin}
use Rattle.std.specs.Str.{bytes_eq}
use denote.Bor.{Bor}
use Rattle.sha2.specs.Sha256.{sha256}
use Rattle.mxf_klv.specs.Parts.{NoteParts}
use Rattle.mxf_klv.specs.Note.{covered_end}
use Rattle.mxf_verify.specs.Verifying.{front_size, held_in, is_digested}
use Rattle.mxf_verify.specs.Agreeing.{agrees_with}
use Rattle.mxf_verify.specs.declared.candidate.Candidate.{Candidate}
use Rattle.mxf_verify.specs.declared.comparison.Comparison.{Comparison}

-- The bytes of the value have the digest that the note knows.
unfoldable pub has_digest : NoteParts → List ℕ → Bool
has_digest n bytes = bytes_eq (sha256 (drop (front_size n) bytes)) n.held

-- Those of the bytes from an offset on that are of the note's value.
unfoldable pub value_in : NoteParts → ℕ → List ℕ → List ℕ
value_in n offset bytes = drop (front_size n) (held_in n offset bytes)

-- The bytes are what the note says, as far as it says it byte by byte; and their value has its digest.
unfoldable pub agreeing : ℕ → List ℕ → Bor NoteParts → Candidate
agreeing offset bytes r = record { note = r; is_same = agrees_with r.now (held_in r.now offset bytes) }

unfoldable pub told : ℕ → List ℕ → Bor NoteParts → Candidate
told offset bytes r = record {
  note = r;
  is_same = agrees_with r.now (held_in r.now offset bytes)
      && (not (is_digested r.now) || has_digest r.now (held_in r.now offset bytes));
}

-- Bytes of a source came, the first of which lies at an offset. The notes were compared with them. Among the first
-- `digested` notes, those that know a digest have ended, and it was compared too.
pub record HasTaken (offset : ℕ) (bytes : List ℕ) (digested : ℕ) (notes : List (Bor NoteParts)) (c : Comparison)
    : Type 0 where
  pub candidates : c.candidates.items ≡ map (told offset bytes) (take digested notes)
      ++ map (agreeing offset bytes) (drop digested notes)
  pub at : c.at ≡ offset + length bytes
  pub behind : AllWithin (λ r. offset ≤ r.now.offset) notes 0 (length notes)
  pub ended : AllWithin (λ r. IsTrue (is_digested r.now) → covered_end r.now ≤ offset + length bytes) notes 0 digested
