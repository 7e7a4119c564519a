-- The notes of a catalogue that sources are compared with (this project's profile).
use Rattle.std.specs.Prelude.{◌≡◌, ◌&&◌, not, Bool, true, List, filter, length, map}
use Rattle.std.specs.List.{AllWithin}
use Rattle.mxf_klv.specs.Parts.{NoteParts}
use Rattle.mxf_catalogue.specs.Content.{AreReduced, IsCatalogue}
use Rattle.mxf_catalogue.specs.Disputes.{is_disputed}
use Rattle.mxf_readings.specs.Readings.{is_held}
use Rattle.mxf_verify.specs.Verifying.{is_digested}
use Rattle.mxf_verify.specs.declared.candidate.Candidate.{Candidate}

-- The note is a disputed one of the reference whose value isn't kept. A law ties it to the relation.
unfoldable pub is_crowded : List NoteParts → NoteParts → Bool
is_crowded reference n = is_digested n && (is_held n reference && is_disputed n reference)

-- Those of the notes that are compared with bytes, in their order.
abbrev pub free_of : List NoteParts → List NoteParts
free_of reference = filter (λ n. not (is_crowded reference n)) reference

-- The candidates are these notes, and nothing was compared with them yet.
pub record AreCandidates (reference : List NoteParts) (candidates : List Candidate) : Type 0 where
  pub catalogue : IsCatalogue reference
  pub reduced : AreReduced reference
  pub free : map (λ (c : Candidate). c.note.now) candidates ≡ free_of reference
  pub fresh : AllWithin (λ c. c.is_same ≡ true) candidates 0 (length candidates)
