-- What the parts of a run are as sources of a verification (this project's profile). A reader is known by the bytes
-- that it has left, if it gives them.
use Rattle.std.specs.Prelude.{◌≡◌, ◌-◌, ℕ, min, Option, List, [], ◌∷◌, take}
use Rattle.mxf_klv.specs.Note.{greatest_end}
use Rattle.mxf_klv.specs.Parts.{NoteParts}
use Rattle.mxf_views.specs.Headline.{IsTheRun}
use Rattle.mxf_read.specs.Gathering.{HandedBy, IsGatherFault, bytes_of, piece_limit}
use Rattle.mxf_read.specs.declared.gathering.part.Part.{Part}
use Rattle.mxf_read.specs.declared.gathering.part.Part.TheVariants as parts
use Rattle.mxf_verify.specs.Verifying.{Source, Bytes, Saved}
use Rattle.mxf_verify.specs.declared.verifying.VerifyFault.{VerifyFault}
use Rattle.mxf_verify.specs.declared.verifying.VerifyFault.TheVariants as faults

-- Bytes, the first of which lies at an offset: those up to the limit of a piece, and below the greatest end.
abbrev pub source_at : ℕ → List ℕ → Source
source_at offset bytes = Bytes (min offset greatest_end) (take (min piece_limit (greatest_end - offset)) bytes)

module _ {R : Type 0} (left : R → Option (List ℕ)) where
  -- A piece or a range is its bytes, and no packet is looked for in them; a saved catalogue is its content.
  abbrev pub IsSourceOf : Part R → Source → Type 0
  IsSourceOf (parts.Piece offset from) s = s ≡ source_at offset (bytes_of left from)
  IsSourceOf (parts.Range offset from) s = s ≡ source_at offset (bytes_of left from)
  IsSourceOf (parts.Saved from) s =
      (notes : List NoteParts) × IsTheRun (HandedBy left (parts.Saved from ∷ [])) notes × (s ≡ Saved notes)

  -- The sources are those of the parts, in their order.
  abbrev pub AreSourcesOf : List (Part R) → List Source → Type 0
  AreSourcesOf [] [] = Unit {0}
  AreSourcesOf [] (s ∷ sources) = ⊥
  AreSourcesOf (p ∷ parts) [] = ⊥
  AreSourcesOf (p ∷ parts) (s ∷ sources) = IsSourceOf p s × AreSourcesOf parts sources

  -- Memory ran out, or one of the parts is at fault.
  abbrev pub IsVerifyFault : List (Part R) → VerifyFault → Type 0
  IsVerifyFault parts faults.OutOfMemory = Unit {0}
  IsVerifyFault parts (faults.Part fault) = IsGatherFault left parts fault
