-- Which source holds which note, as one list (this project's profile).
use Rattle.std.specs.Prelude.{◌↔◌, ◌==◌, ◌&&◌, ℕ, ◌+◌, Bool, List, [], ◌∷◌, ◌++◌, filter, length, map}
use Rattle.std.specs.List.Sorted.{IsNonDecreasing, IsPermutation}
use Rattle.std.specs.Ordering.{nat_cmp, on, then_cmp}
use Rattle.std.specs.declared.cmp.Ordering.{Ordering}
use Rattle.mxf_klv.specs.Parts.{NoteParts}
use Rattle.mxf_klv.specs.Note.{note_cmp}
use Rattle.mxf_klv.specs.Rising.{In, IsRising}
use Rattle.mxf_catalogue.specs.Disputes.{is_same_note}
use Rattle.mxf_readings.specs.Readings.{content_of, is_held}

-- A note and the number of a source that has it.
pub record HoldingParts : Type 0 where
  pub note : NoteParts
  pub source : ℕ

abbrev pub holding : ℕ → NoteParts → HoldingParts
holding source n = record { note = n; source = source }

-- They go by note, then by source.
abbrev pub holding_cmp : HoldingParts → HoldingParts → Ordering
holding_cmp = then_cmp (on (λ h. h.note) note_cmp) (on (λ h. h.source) nat_cmp)

-- It is of this note.
abbrev pub is_of : NoteParts → HoldingParts → Bool
is_of n h = is_same_note h.note n

-- The notes of sources that are numbered from a first on, source after source.
abbrev pub holdings_from : ℕ → List (List NoteParts) → List HoldingParts
holdings_from first [] = []
holdings_from first (c ∷ contents) = map (holding first) c ++ holdings_from (first + 1) contents

-- They rise, and say exactly which source has which note.
pub record AreHoldings (contents : List (List NoteParts)) (holdings : List HoldingParts) : Type 0 where
  pub rising : IsRising holding_cmp holdings
  pub members : (h : HoldingParts) → In h holdings ↔ In h.note (content_of h.source contents)

-- It is the only one of its note.
abbrev pub is_only : List HoldingParts → HoldingParts → Bool
is_only holdings h = length (filter (is_of h.note) holdings) == 1

-- The source of each that is the only one of its note, if the note is one of all.
abbrev pub sources_alone : List NoteParts → List HoldingParts → List ℕ
sources_alone all holdings = map (λ h. h.source) (filter (λ h. is_only holdings h && is_held h.note all) holdings)

-- The same sources, in an order in which their numbers don't fall.
pub record AreAlone (all : List NoteParts) (holdings : List HoldingParts) (sources : List ℕ) : Type 0 where
  pub members : IsPermutation (sources_alone all holdings) sources
  pub rising : IsNonDecreasing sources
