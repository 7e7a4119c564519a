-- What is saved of packets that were passed over (this project's profile).
use Rattle.std.specs.Prelude.{◌≡◌, if◌then◌else◌, List, [], map}
use Rattle.mxf_klv.specs.Note.{head_note}
use Rattle.mxf_klv.specs.Parts.{NoteParts}
use Rattle.mxf_klv.specs.Rising.{In}
use Rattle.mxf_catalogue.specs.Content.{IsLocated, reduced_union}
use Rattle.mxf_skim.specs.PassedOver.{is_passed_over}

-- The head, if the packet was passed over; otherwise the note.
abbrev pub saved_note : NoteParts → NoteParts
saved_note n = if is_passed_over n then head_note n else n

-- It is saved of one of the notes, and is no head of a packet of which a whole note is saved.
abbrev pub IsSaved : List NoteParts → NoteParts → Type 0
IsSaved notes n = IsLocated (λ m. (x : NoteParts) × In x notes × (m ≡ saved_note x)) n

-- The content of what is saved of some notes.
abbrev pub with_heads : List NoteParts → List NoteParts
with_heads notes = reduced_union [] (map saved_note notes)
