-- What the later ones of two sides hold (this project's profile). A reader is known by the bytes that it has left, if it
-- gives them.
use Rattle.std.specs.Prelude.{◌≡◌, ℕ, Option, List}
use Rattle.mxf_klv.specs.Parts.{NoteParts}
use Rattle.mxf_read.specs.declared.gathering.part.Part.{Part}
use Rattle.mxf_readings.specs.Readings.{all_notes}
use Rattle.mxf_hints.specs.Contents.{AreRuns}

module _ {R : Type 0} (left : R → Option (List ℕ)) where
  -- They are all notes of the parts, of which each was read by itself.
  pub record AreAllOf (parts : List (Part R)) (notes : List NoteParts) : Type 0 where
    pub contents : List (List NoteParts)
    pub runs : AreRuns left parts contents
    pub all : notes ≡ all_notes contents
