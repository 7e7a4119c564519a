-- What sources hold, each by itself (this project's profile). A reader is known by the bytes that it has left, if it
-- gives them.
use Rattle.std.specs.Prelude.{◌≡◌, ℕ, Option, List, [], ◌∷◌, ◌++◌}
use Rattle.mxf_klv.specs.Parts.{NoteParts}
use Rattle.mxf_views.specs.Headline.{IsTheRun}
use Rattle.mxf_read.specs.declared.gathering.part.Part.{Part}
use Rattle.mxf_read.specs.declared.gathering.report.PieceReport.{PieceReport}
use Rattle.mxf_read.specs.Gathering.{HandedBy, reports_in}

-- The report, as that of the part with a number.
abbrev pub numbered : ℕ → PieceReport → PieceReport
numbered part r = record { part = part; offset = r.offset; report = r.report }

module _ {R : Type 0} (left : R → Option (List ℕ)) where
  -- There is a content for each part, in their order: the run of that part alone.
  abbrev pub AreRuns : List (Part R) → List (List NoteParts) → Type 0
  AreRuns [] [] = Unit {0}
  AreRuns [] (c ∷ contents) = ⊥
  AreRuns (p ∷ parts) [] = ⊥
  AreRuns (p ∷ parts) (c ∷ contents) = IsTheRun (HandedBy left (p ∷ [])) c × AreRuns parts contents

  -- After the old contents stands the run of the part with a number, alone, and after the old reports what is reported
  -- of it.
  pub record TakesAlone (number : ℕ) (part : Part R) (old new : List (List NoteParts)) (before after : List PieceReport)
      : Type 0 where
    pub content : List NoteParts
    pub run : IsTheRun (HandedBy left (part ∷ [])) content
    pub added : new ≡ old ++ content ∷ []
    pub reported : after ≡ before ++ reports_in left number part
