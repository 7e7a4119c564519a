-- What the parts of a run hold together by a skim (this project's profile).
use Rattle.std.specs.Prelude.{◌≡◌, ◌≢◌, ◌↔◌, ◌⊎◌, ℕ, true, false, List, [], ◌∷◌, ◌++◌, length, Option}
use Rattle.mxf_klv.specs.Note.{head_note}
use Rattle.mxf_klv.specs.Parts.{NoteParts, PacketParts}
use Rattle.mxf_klv.specs.PieceReading.{notes_in}
use Rattle.mxf_klv.specs.Rising.{In}
use Rattle.mxf_catalogue.specs.CatalogueFile.{IsFileOf}
use Rattle.mxf_catalogue.specs.Content.{AreReduced, IsContent, IsLocated, has_note}
use Rattle.mxf_catalogue.specs.Reduced.{IsKnown}
use Rattle.mxf_skim.specs.PassedOver.{is_in_container, is_passed_over, noted_by, was_read}
use Rattle.mxf_skim.specs.declared.scan.Scan.TheVariants.{Skim}
use Rattle.mxf_read.specs.Gathering.{IsGood, bytes_of, piece_of, reports_in}
use Rattle.mxf_read.specs.Levels.{Adds, merged_with}
use Rattle.mxf_skim.specs.Preferring.{prefer_read}
use Rattle.mxf_read.specs.Ranges.{range_notes}
use Rattle.mxf_read.specs.declared.gathering.part.Part.{Part}
use Rattle.mxf_read.specs.declared.gathering.part.Part.TheVariants.{Piece, Range, Saved}
use Rattle.mxf_read.specs.declared.gathering.report.PieceReport.{PieceReport}

-- The note is a located packet of what was handed; and if its packet was passed over, no other reading of it that was
-- handed read it.
pub record IsPreferred (handed : NoteParts → Type 0) (n : NoteParts) : Type 0 where
  pub located : IsLocated handed n
  pub unread : is_passed_over n ≡ true → (m : NoteParts) → handed m → was_read m ≡ true → head_note m ≢ head_note n

-- The notes are those of a skim that was handed these: whatever the order, the repeats and the joins.
pub record IsTheSkim (handed : NoteParts → Type 0) (notes : List NoteParts) : Type 0 where
  pub content : IsContent notes
  pub members : (n : NoteParts) → In n notes ↔ IsPreferred handed n

-- Two packets have one key and one length, and one value unless it is passed over.
pub record IsAlikeButPassed (p q : PacketParts) : Type 0 where
  pub key : p.key ≡ q.key
  pub width : p.width ≡ q.width
  pub size : length p.value ≡ length q.value
  pub value : is_in_container p.key (length p.value) ≡ false → p.value ≡ q.value

-- They are so, one after another.
abbrev pub AreAlikeButPassed : List PacketParts → List PacketParts → Type 0
AreAlikeButPassed [] [] = Unit {0}
AreAlikeButPassed [] (q ∷ qs) = ⊥
AreAlikeButPassed (p ∷ ps) [] = ⊥
AreAlikeButPassed (p ∷ ps) (q ∷ qs) = IsAlikeButPassed p q × AreAlikeButPassed ps qs

-- The notes are those of all contents merged, which are a reduced content, where notes that were read are preferred.
pub record HoldsSkim (levels : List (List NoteParts)) (notes : List NoteParts) : Type 0 where
  pub content : IsContent (merged_with levels [])
  pub reduced : AreReduced (merged_with levels [])
  pub preferred : notes ≡ prefer_read (merged_with levels [])

module _ {R : Type 0} (left : R → Option (List ℕ)) where
  -- The part hands the note to a skim: a piece or a range as the skim notes it, a saved catalogue its own.
  abbrev pub HandsSkim : Part R → NoteParts → Type 0
  HandsSkim (Piece offset from) n = In n (noted_by Skim (notes_in offset (piece_of left from)))
  HandsSkim (Range offset from) n = In n (noted_by Skim (range_notes offset (piece_of left from)))
  HandsSkim (Saved from) n = (notes : List NoteParts) × IsFileOf (bytes_of left from) notes × In n notes

  -- One of the parts hands the note.
  abbrev pub SkimHandedBy : List (Part R) → NoteParts → Type 0
  SkimHandedBy [] n = ⊥
  SkimHandedBy (p ∷ parts) n = HandsSkim p n ⊎ SkimHandedBy parts n

  -- The part with a number was taken: a content that has what it hands was added to those that wait to be merged, and
  -- its reports stand after those before.
  pub record TakesSkim (number : ℕ) (p : Part R) (old new : List (List NoteParts)) (before after : List PieceReport)
      : Type 0 where
    pub notes : List NoteParts
    pub handed : (n : NoteParts) → has_note notes n ↔ IsKnown head_note (HandsSkim p) n
    pub added : Adds old notes new
    pub reported : after ≡ before ++ reports_in left number p
    pub good : IsGood left p
