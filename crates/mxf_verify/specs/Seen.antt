-- What sources said so far of the notes of a reference (this project's profile).
use Rattle.std.specs.Prelude.{◌≡◌, ◌↔◌, ◌+◌, ℕ, IsTrue, List, [], ◌∷◌, ◌++◌, length}
use Rattle.std.specs.List.{flat_map}
use Rattle.mxf_klv.specs.Parts.{NoteParts}
use Rattle.mxf_klv.specs.Rising.{In}
use Rattle.mxf_catalogue.specs.Content.{IsCatalogue}
use Rattle.mxf_catalogue.specs.Runs.{LiesIn, run}
use Rattle.mxf_catalogue.specs.declared.run.Run.{Run}
use Rattle.mxf_verify.specs.Verifying.{IsByteOf, IsHeldBy, IsVerified, Source, TouchesIn, Bytes, Saved}
use Rattle.mxf_verify.specs.Verifications.{AreDiffering, parts_of}
use Rattle.mxf_verify.specs.declared.seen.Seen.{Seen}

-- The range that a source of bytes is.
abbrev pub range_in : Source → List Run
range_in (Bytes offset bytes) = run offset (offset + length bytes) ∷ []
range_in (Saved notes) = []

-- Some catalogue among the sources has the head of the note.
abbrev pub IsHeaded : List Source → NoteParts → Type 0
IsHeaded sources n = (notes : List NoteParts) × In (Saved notes) sources × TouchesIn n (Saved notes)

-- Some catalogue among the sources holds the byte, and no note of the reference does.
abbrev pub IsBeside : List NoteParts → List Source → ℕ → Type 0
IsBeside reference sources at =
    ((notes : List NoteParts) × In (Saved notes) sources × IsHeldBy notes at) × ¬ IsHeldBy reference at

-- All that was seen of the sources: which notes of the reference some of them has, and whose heads; which differ where;
-- the ranges that they are, and what they hold beside the reference; and whether a byte came.
pub record IsSeen (reference : List NoteParts) (sources : List Source) (seen : Seen) : Type 0 where
  pub catalogue : IsCatalogue reference
  pub reference_is : seen.reference ≡ reference
  pub verified : (n : NoteParts) → In n seen.verified ↔ (In n reference × IsVerified reference sources n)
  pub headed : (n : NoteParts) → In n seen.headed ↔ (In n reference × IsHeaded sources n)
  pub differing : AreDiffering reference 1 sources (parts_of seen.differing.items)
  pub ranges : seen.ranges.items ≡ flat_map range_in sources
  pub beside : (at : ℕ) → LiesIn seen.beside.items at ↔ IsBeside reference sources at
  pub came : IsTrue seen.came ↔ ((at : ℕ) × (s : Source) × In s sources × IsByteOf s at)

-- One source more was seen, the one with this number.
abbrev pub SeesNext : ℕ → Source → Seen → Seen → Type 0
SeesNext number s old new =
    (reference : List NoteParts) (sources : List Source) → number ≡ length sources + 1 → IsSeen reference sources old
    → IsSeen reference (sources ++ s ∷ []) new
