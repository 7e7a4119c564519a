-- What the readers of a file's parts answer (this project's profile).
use Rattle.std.specs.Prelude.{◌≡◌, ℕ, ◌<◌, List, ◌++◌, length}
use Rattle.mxf_klv.specs.Parts.{NoteParts}
use Rattle.mxf_klv.specs.Note.{IsNote}
use Rattle.mxf_catalogue.specs.CatalogueFile.{CanBeMarked, IsBadNote, IsCutNote, fixed_part_of, held_length, mark_of}
use Rattle.mxf_catalogue.specs.declared.catalogue.file.fixed_part.FixedPart.{FixedPart}
use Rattle.mxf_catalogue.specs.declared.catalogue.file.start.Version.{Version}
use Rattle.mxf_catalogue.specs.declared.catalogue.file.FileFault.{FileFault}
use Rattle.mxf_catalogue.specs.declared.catalogue.file.FileFault.TheVariants as faults

-- The note has the fixed part and the mark and holds the first of the bytes after them, and the rest follows these.
pub record NoteBehindMark (f : FixedPart) (mark : ℕ) (bytes : List ℕ) (n : NoteParts) (rest : List ℕ) : Type 0 where
  pub note : IsNote n
  pub fixed : fixed_part_of n ≡ f
  pub marked : mark_of n.whole ≡ mark
  pub held : bytes ≡ n.held ++ rest

-- Why there is none, at a place of the file.
abbrev pub RefusesBehindMark : ℕ → FixedPart → ℕ → List ℕ → FileFault → Type 0
RefusesBehindMark place f mark bytes (faults.Truncated p) = (p
    ≡ place) × CanBeMarked f mark × (length bytes < held_length f mark)
RefusesBehindMark place f mark bytes (faults.BadNote p) = (p ≡ place) × ¬ CanBeMarked f mark
RefusesBehindMark place f mark bytes faults.OutOfMemory = Unit {0}
RefusesBehindMark place f mark bytes faults.BadMagic = ⊥
RefusesBehindMark place f mark bytes faults.BadVersion = ⊥
RefusesBehindMark place f mark bytes (faults.NotSorted p) = ⊥
RefusesBehindMark place f mark bytes (faults.NotReduced p) = ⊥
RefusesBehindMark place f mark bytes (faults.Trailing p) = ⊥

-- Why no note of the version stands at the front, at a place of the file.
abbrev pub RefusesNote : Version → ℕ → List ℕ → FileFault → Type 0
RefusesNote version place bytes (faults.Truncated p) = (p ≡ place) × IsCutNote version bytes
RefusesNote version place bytes (faults.BadNote p) = (p ≡ place) × IsBadNote version bytes
RefusesNote version place bytes faults.OutOfMemory = Unit {0}
RefusesNote version place bytes faults.BadMagic = ⊥
RefusesNote version place bytes faults.BadVersion = ⊥
RefusesNote version place bytes (faults.NotSorted p) = ⊥
RefusesNote version place bytes (faults.NotReduced p) = ⊥
RefusesNote version place bytes (faults.Trailing p) = ⊥
