-- What clear notes cover and how many Prefaces are among them, summed up from mark to mark (this project's profile).
use Rattle.std.specs.Prelude.{◌≡◌, ℕ, ◌+◌, ◌≤◌, ◌⊎◌, List}
use Rattle.std.specs.List.Sorted.{IsNonDecreasingBy}
use Rattle.mxf_klv.specs.Parts.{NoteParts}
use Rattle.mxf_klv.specs.Note.{end_of}
use Rattle.mxf_klv.specs.Rising.{In}
use Rattle.mxf_views.specs.declared.kept.sums.Mark.{Mark}
use Rattle.mxf_views.specs.Copies.{covered_of, prefaces_of}

-- No note lies across the offset: each ends there or below, or begins there or above.
abbrev pub IsCut : ℕ → List NoteParts → Type 0
IsCut offset notes = (n : NoteParts) → In n notes → (end_of n ≤ offset) ⊎ (offset ≤ n.offset)

-- No note lies across the mark, and its counts are those of the notes below it.
pub record IsMark (notes : List NoteParts) (mark : Mark) : Type 0 where
  pub cut : IsCut mark.offset notes
  pub covered : mark.covered ≡ covered_of 0 mark.offset notes
  pub prefaces : mark.prefaces ≡ prefaces_of 0 mark.offset notes

-- Marks among the notes, whose offsets don't fall.
pub record AreMarks (notes : List NoteParts) (marks : List Mark) : Type 0 where
  pub each : (mark : Mark) → In mark marks → IsMark notes mark
  pub rise : IsNonDecreasingBy (λ (mark : Mark). mark.offset) marks

-- Two marks among the notes, the first not above the last, and both are in a range of a given number of bytes.
pub record AreInRange (notes : List NoteParts) (start bytes : ℕ) (first last : Mark) : Type 0 where
  pub first_is : IsMark notes first
  pub last_is : IsMark notes last
  pub from : start ≤ first.offset
  pub order : first.offset ≤ last.offset
  pub to : last.offset ≤ start + bytes

-- A content, and the boundary from which on its clear notes are summed up.
pub record SumsParts : Type 0 where
  pub notes : List NoteParts
  pub boundary : ℕ
