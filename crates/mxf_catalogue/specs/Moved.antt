-- What adding a note says (this project's profile).
use Rattle.std.specs.Prelude.{◌≡◌, List}
use Rattle.mxf_klv.specs.Parts.{NoteParts}
use Rattle.mxf_catalogue.specs.declared.catalogue.change.Change.{Change}
use Rattle.mxf_catalogue.specs.declared.catalogue.change.Change.TheVariants.{Repeated, Added}
use Rattle.mxf_catalogue.specs.NoteLists.{moved_by}

-- If the note was new, the offsets are those of the notes that it moves.
abbrev pub TellsMoved : NoteParts → List NoteParts → Change → Type 0
TellsMoved n old Repeated = Unit {0}
TellsMoved n old (Added moved) = moved ≡ moved_by n old
