-- Which notes of a reference a source has, and which differ there, as lists (this project's profile).
use Rattle.std.specs.Prelude.{◌↔◌, ℕ, List, map}
use denote.Bor.{Bor}
use Rattle.mxf_klv.specs.Parts.{NoteParts}
use Rattle.mxf_klv.specs.Rising.{In}
use Rattle.mxf_catalogue.specs.Content.{IsContent}
use Rattle.mxf_catalogue.specs.Runs.{LiesIn}
use Rattle.mxf_verify.specs.Verifying.{DiffersIn, IsHeldBy, IsSameIn, Source, TouchesIn, Saved}
use Rattle.mxf_verify.specs.declared.told.Told.{Told}
use Rattle.mxf_verify.specs.declared.saved.SavedTold.{SavedTold}

-- The notes are those of a reference of which this holds, in their order.
pub record AreThose (reference : List NoteParts) (P : NoteParts → Type 0) (notes : List NoteParts) : Type 0 where
  pub rising : IsContent notes
  pub members : (n : NoteParts) → In n notes ↔ (In n reference × P n)

-- The notes that are lent.
abbrev pub notes_at : List (Bor NoteParts) → List NoteParts
notes_at notes = map (λ (r : Bor NoteParts). r.now) notes

-- They are the notes of the reference that the source has, and those that differ there.
pub record TellsOf (reference : List NoteParts) (source : Source) (told : Told) : Type 0 where
  pub same : AreThose reference (λ n. IsSameIn reference n source) (notes_at told.same.items)
  pub differing : AreThose reference (λ n. DiffersIn reference n source) (notes_at told.differing.items)

-- What a saved catalogue says of the reference: the same, the notes whose heads it has, and its bytes that no note of
-- the reference holds.
pub record TellsSaved (reference : List NoteParts) (saved : List NoteParts) (told : SavedTold) : Type 0 where
  pub told_is : TellsOf reference (Saved saved) told.told
  pub headed : AreThose reference (λ n. TouchesIn n (Saved saved)) (notes_at told.headed.items)
  pub beside : (at : ℕ) → LiesIn told.beside at ↔ (IsHeldBy saved at × ¬ IsHeldBy reference at)
