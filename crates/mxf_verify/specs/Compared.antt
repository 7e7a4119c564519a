-- What is known of the notes of a reference after the bytes of a source were read by them (this project's profile).
use Rattle.std.specs.Prelude.{◌≡◌, ◌↔◌, ℕ, ◌+◌, ◌<◌, ◌≤◌, true, IsTrue, List, length, take, drop}
use Rattle.std.specs.List.{AllWithin}
use denote.Bor.{Bor}
use Rattle.mxf_klv.specs.Parts.{NoteParts}
use Rattle.mxf_verify.specs.Verifying.{IsAmong, IsSaidBy, held_in}
use Rattle.mxf_verify.specs.Candidates.{notes_of, offset_of}
use Rattle.mxf_verify.specs.declared.compared.Compared.{Compared}
use Rattle.mxf_verify.specs.declared.candidate.Candidate.{Candidate}

-- Nothing was compared with the note yet.
abbrev pub fresh : Bor NoteParts → Candidate
fresh r = record { note = r; is_same = true }

-- Of each note whose bytes are all among those of the source, it is known whether these are as it says.
abbrev pub AreSame : ℕ → List ℕ → List Candidate → Type 0
AreSame offset bytes candidates =
    AllWithin (λ c. IsAmong c.note.now offset bytes → IsTrue c.is_same
    ↔ IsSaidBy c.note.now (held_in c.note.now offset bytes))
    candidates 0 (length candidates)

-- Of all candidates, those that begin from an offset on and below the end were compared with the bytes from it on.
pub record ComparesBytes (all : List Candidate) (offset end : ℕ) (bytes : List ℕ) (c : Compared) : Type 0 where
  pub part : notes_of c.candidates.items ≡ take (length c.candidates.items) (drop c.first (notes_of all))
  pub before : AllWithin (λ x. offset_of x < offset) all 0 c.first
  pub from : AllWithin (λ x. offset ≤ offset_of x) all c.first (length all)
  pub behind : AllWithin (λ x. end ≤ offset_of x) all (c.first + length c.candidates.items) (length all)
  pub same : AreSame offset bytes c.candidates.items
  pub at : c.end ≡ offset + length bytes
