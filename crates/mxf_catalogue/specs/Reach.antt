-- How far notes reach that were passed in their order (this project's profile).
use Rattle.std.specs.Prelude.{◌≡◌, ℕ, ◌+◌, ◌-◌, ◌<◌, ◌≤◌, List, ◌∷◌, ◌++◌}
use Rattle.mxf_klv.specs.Parts.{NoteParts}
use Rattle.mxf_klv.specs.Note.{end_of}
use Rattle.mxf_klv.specs.Rising.{In}
use Rattle.mxf_catalogue.specs.Content.{IsContent}

-- The greatest end of those of the notes that begin below an offset, or 0 if none does.
pub record IsReach (offset : ℕ) (notes : List NoteParts) (reach : ℕ) : Type 0 where
  pub bound : (m : NoteParts) → In m notes → m.offset < offset → end_of m ≤ reach
  pub some : 0 < reach → (m : NoteParts) × In m notes × (m.offset < offset) × (end_of m ≡ reach)

-- Notes whose last begins just below an offset, or none if that is 0: how far those reach that begin before the last,
-- and how far all do.
pub record ArePassed (passed : List NoteParts) (above lower reached : ℕ) : Type 0 where
  pub below : (m : NoteParts) → In m passed → m.offset < above
  pub last : 0 < above → (m : NoteParts) × In m passed × (m.offset + 1 ≡ above)
  pub lower_is : IsReach (above - 1) passed lower
  pub reached_is : IsReach above passed reached

-- The notes that are left follow such notes in a content.
pub record IsLeft (all left : List NoteParts) (above lower reached : ℕ) : Type 0 where
  pub passed : List NoteParts
  pub whole : passed ++ left ≡ all
  pub rises : IsContent all
  pub are : ArePassed passed above lower reached

-- A note stands in a content after such notes and before those that are left, and this is how far those notes reach
-- that begin below it.
pub record StandsIn (n : NoteParts) (all left : List NoteParts) (above lower : ℕ) : Type 0 where
  pub passed : List NoteParts
  pub whole : passed ++ n ∷ left ≡ all
  pub rises : IsContent all
  pub below : (m : NoteParts) → In m passed → m.offset < above
  pub last : 0 < above → (m : NoteParts) × In m passed × (m.offset + 1 ≡ above)
  pub lower_is : IsReach n.offset passed lower
