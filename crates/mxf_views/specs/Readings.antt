-- Notes that can be read (ST 377-1; what is kept is this project's profile).
use Rattle.std.specs.Prelude.{◌≡◌, ℕ, IsTrue, List, Ok, Result}
use Rattle.mxf_klv.specs.Parts.{NoteParts}
use Rattle.mxf_klv.specs.Note.{keeps_value}

-- The note keeps its value, and this is what it is by a reading.
abbrev pub IsReadAs : {A E : Type 0} → (List ℕ → Result A E) → NoteParts → A → Type 0
IsReadAs read n value = IsTrue (keeps_value n) × (read n.held ≡ Ok value)

-- The note keeps its value, and the reading has no fault.
abbrev pub IsReadable : {A E : Type 0} → (List ℕ → Result A E) → NoteParts → Type 0
IsReadable {A} read n = (value : A) × IsReadAs read n value
