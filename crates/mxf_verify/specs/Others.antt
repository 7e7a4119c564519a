-- The notes of a saved catalogue that a reference hasn't, and what they say of its own (this project's profile).
use Rattle.std.specs.Prelude.{◌&&◌, not, Bool, List, filter}
use Rattle.std.specs.List.{list_any}
use Rattle.mxf_klv.specs.Parts.{NoteParts}
use Rattle.mxf_klv.specs.Note.{head_note}
use Rattle.mxf_catalogue.specs.Disputes.{is_same_note}
use Rattle.mxf_verify.specs.Comparing.{is_held_byte_shared}
use Rattle.mxf_verify.specs.Opposing.{is_had}
use Rattle.mxf_readings.specs.Readings.{is_held}

-- Those of the saved notes that the reference hasn't, in their order.
unfoldable pub others_of : List NoteParts → List NoteParts → List NoteParts
others_of saved reference = filter (λ m. not (is_had m reference)) saved

-- One of the notes shares a held byte with it, and isn't the packet whose head it is.
unfoldable pub is_touched : NoteParts → List NoteParts → Bool
is_touched n notes = list_any (λ m. is_held_byte_shared m n && not (is_same_note (head_note m) n)) notes

-- The note was read whole, and its head is one of the notes.
unfoldable pub is_headed : NoteParts → List NoteParts → Bool
is_headed n notes = n.whole && is_held (head_note n) notes
