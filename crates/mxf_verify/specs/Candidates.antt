-- Notes that are compared with the bytes of a source as these come (this project's profile).
use Rattle.std.specs.Prelude.{◌-◌, ◌<◌, ◌≤◌, ◌&&◌, ℕ, Bool, IsTrue, List, length, map, slice_index_or}
use Rattle.std.specs.List.{AllWithin}
use denote.Bor.{Bor}
use Rattle.mxf_klv.specs.Parts.{NoteParts}
use Rattle.mxf_klv.specs.Note.{covered_end}
use Rattle.mxf_verify.specs.Agreeing.{agrees_on, part_of}
use Rattle.mxf_verify.specs.Verifying.{is_digested}
use Rattle.mxf_verify.specs.declared.candidate.Candidate.{Candidate}

-- The candidate, compared with further bytes, the first of which lies at an offset.
unfoldable pub compared : ℕ → List ℕ → Candidate → Candidate
compared at bytes c =
    record c { is_same = c.is_same && agrees_on c.note.now (at - c.note.now.offset) (part_of c.note.now at bytes) }

-- Where its note begins.
abbrev pub offset_of : Candidate → ℕ
offset_of c = c.note.now.offset

-- The given number of candidates at the front have ended by an offset.
pub record AreSettled (settled at : ℕ) (candidates : List Candidate) : Type 0 where
  pub within : settled ≤ length candidates
  pub ended : AllWithin (λ c. covered_end c.note.now ≤ at) candidates 0 settled

-- The candidate, of which something more is the same, or isn't.
unfoldable pub also : Bool → Candidate → Candidate
also is_same c = record c { is_same = c.is_same && is_same }

-- The notes of candidates.
abbrev pub notes_of : List Candidate → List (Bor NoteParts)
notes_of candidates = map (λ (c : Candidate). c.note) candidates

-- At the place stands a candidate that knows a digest, if one stands there.
abbrev pub IsAtDigested : ℕ → List Candidate → Type 0
IsAtDigested place candidates = (d : Candidate) → place < length candidates
    → IsTrue (is_digested (slice_index_or candidates place d).note.now)
