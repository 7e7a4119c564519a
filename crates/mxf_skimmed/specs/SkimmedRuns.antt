-- What is said where parts were read, and the same parts were skimmed (this project's profile).
use Rattle.std.specs.Prelude.{◌≡◌, ◌↔◌, ◌⊎◌, ℕ, List, [], ◌∷◌, Option}
use Rattle.std.specs.List.{AllByRecursion}
use Rattle.mxf_klv.specs.Parts.{NoteParts}
use Rattle.mxf_klv.specs.Rising.{In}
use Rattle.mxf_views.specs.Gaps.{gaps_of}
use Rattle.mxf_views.specs.Headline.{IsTheRun}
use Rattle.mxf_doubts.specs.Doubts.{doubts_of}
use Rattle.mxf_findings.specs.Findings.{findings_of}
use Rattle.mxf_findings.specs.SameViews.{SameViews}
use Rattle.mxf_read.specs.declared.gathering.part.Part.{Part}
use Rattle.mxf_read.specs.declared.gathering.part.Part.TheVariants.{Piece, Range, Saved}
use Rattle.mxf_read.specs.Gathering.{HandedBy, HandsNote, IsGood}
use Rattle.mxf_read.specs.SkimGathering.{IsTheSkim, SkimHandedBy}
use Rattle.mxf_skimmed.specs.Skims.{skim_beside}

-- All views, the gaps, the findings and the doubts of the first content are those of the second.
pub record SaysTheSame (a b : List NoteParts) : Type 0 where
  pub views : SameViews a b
  pub gaps : gaps_of a ≡ gaps_of b
  pub findings : findings_of a ≡ findings_of b
  pub doubts : doubts_of a ≡ doubts_of b

module _ {R : Type 0} (left : R → Option (List ℕ)) where
  -- The first content is what a run holds that read the parts, the second what one holds that skimmed them.
  pub record AreReadAndSkimmed (parts : List (Part R)) (notes skim : List NoteParts) : Type 0 where
    pub good : AllByRecursion (IsGood left) parts
    pub read : IsTheRun (HandedBy left parts) notes
    pub skimmed : IsTheSkim (SkimHandedBy left parts) skim

  -- The part is a saved catalogue that hands the note.
  abbrev pub IsSavedBy : Part R → NoteParts → Type 0
  IsSavedBy (Piece offset from) n = ⊥
  IsSavedBy (Range offset from) n = ⊥
  IsSavedBy (Saved from) n = HandsNote left (Saved from) n

  -- One of the parts is.
  abbrev pub IsSavedIn : List (Part R) → NoteParts → Type 0
  IsSavedIn [] n = ⊥
  IsSavedIn (p ∷ parts) n = IsSavedBy p n ⊎ IsSavedIn parts n

  -- The second content has the notes of the first. Packets of a container were passed over, unless a saved catalogue
  -- among the parts has their note.
  pub record IsSkimOf (parts : List (Part R)) (notes skim : List NoteParts) : Type 0 where
    pub saved : List NoteParts
    pub members : (n : NoteParts) → In n saved ↔ IsSavedIn parts n
    pub noted : skim ≡ skim_beside saved notes
