-- What notes are read as (this project's profile).
use Rattle.std.specs.Prelude.{ℕ, if◌then◌else◌, List, Option, None, Result}
use Rattle.std.specs.Result.{result_ok}
use Rattle.mxf_klv.specs.Parts.{NoteParts}
use Rattle.mxf_klv.specs.Note.{keeps_value}

-- What the note's value is by a reading, if the note keeps it and the reading has no fault.
abbrev pub read_as : {A E : Type 0} → (List ℕ → Result A E) → NoteParts → Option A
read_as read n = if keeps_value n then result_ok (read n.held) else None
