-- What a run holds whose calls all succeeded, by the set of notes that it was handed (this project's profile).
use Rattle.std.specs.Prelude.{◌≡◌, ◌≢◌, ◌↔◌, List, map}
use Rattle.mxf_klv.specs.Parts.{PacketParts, NoteParts}
use Rattle.mxf_klv.specs.Piece.{notes_from}
use Rattle.mxf_klv.specs.Rising.{In}
use Rattle.mxf_catalogue.specs.CatalogueFile.{IsFileOf, file_bytes}
use Rattle.mxf_catalogue.specs.Content.{IsLocated}
use Rattle.mxf_catalogue.specs.Disputes.{SharesByte, disputed_notes}
use Rattle.mxf_catalogue.specs.History.{History, Hands, HandsSame, content}
use Rattle.mxf_views.specs.WellFormed.{IsWellFormed}
use Rattle.mxf_views.specs.WholeFile.{HasCopiesOf, HasIndexOf, HasPartitionsOf, HasRandomIndexOf}

-- It is the note of a packet of the file.
abbrev pub IsNoteOf : List PacketParts → NoteParts → Type 0
IsNoteOf l n = In n (notes_from 0 l)

-- The views of the notes are those of the reading of the file from the front.
pub record IsReadFromFront (notes : List NoteParts) (l : List PacketParts) : Type 0 where
  pub partitions : HasPartitionsOf notes l
  pub copies : HasCopiesOf notes l
  pub index : HasIndexOf notes l
  pub random_index : HasRandomIndexOf notes l

-- The note is a located packet of what was handed, and shares a byte with a different one.
pub record IsDisputedAmong (handed : NoteParts → Type 0) (n : NoteParts) : Type 0 where
  pub there : IsLocated handed n
  pub other : NoteParts
  pub other_there : IsLocated handed other
  pub differs : other ≢ n
  pub shares : SharesByte other n

-- The notes are exactly the located packets that were handed, a whole note or a head that no whole note replaces, and
-- their file is that of the set; whichever calls are handed the same set leave the same notes; the disputed ones are
-- those that share a byte with a different one; and if the set is that of a well-formed file, the views are those of
-- its reading from the front.
pub record IsTheRun (handed : NoteParts → Type 0) (notes : List NoteParts) : Type 0 where
  pub members : (n : NoteParts) → In n notes ↔ IsLocated handed n
  pub file : IsFileOf (file_bytes notes) notes
  pub one : (h : History) → HandsSame (Hands h) handed → content h ≡ notes
  pub disputed : (n : NoteParts) → In n (map (λ d. d.note) (disputed_notes notes)) ↔ IsDisputedAmong handed n
  pub whole : (l : List PacketParts) → IsWellFormed l → HandsSame (IsNoteOf l) handed → IsReadFromFront notes l
