-- Which notes of a reference are reported after the bytes of a source came, as tests (this project's profile).
use Rattle.std.specs.Prelude.{◌&&◌, not, ℕ, Bool, List, max, min, nat_le, nat_lt}
use Rattle.std.specs.List.{list_any}
use Rattle.mxf_klv.specs.Parts.{NoteParts}
use Rattle.mxf_klv.specs.Note.{covered_end}
use Rattle.mxf_catalogue.specs.declared.run.Run.{Run}
use Rattle.mxf_verify.specs.declared.candidate.Candidate.{Candidate}

-- The bytes that the candidate's note holds came, up to an offset, and are what it says.
unfoldable pub is_told_same : ℕ → Candidate → Bool
is_told_same end c = c.is_same && nat_le (covered_end c.note.now) end

-- One of the bytes that the note holds lies in the runs.
unfoldable pub is_met : List Run → NoteParts → Bool
is_met runs n = list_any (λ r. nat_lt (max r.start n.offset) (min r.end (covered_end n))) runs

-- The bytes that the candidate's note holds came, up to an offset, and aren't what it says; and none of them lies in
-- the runs.
unfoldable pub is_told_differing : ℕ → List Run → Candidate → Bool
is_told_differing end runs c = not c.is_same && nat_le (covered_end c.note.now) end && not (is_met runs c.note.now)
