-- What a skim holds of what a reading holds (this project's profile).
use Rattle.std.specs.Prelude.{◌≡◌, if◌then◌else◌, true, List, map}
use Rattle.mxf_klv.specs.Note.{head_note}
use Rattle.mxf_klv.specs.Parts.{NoteParts}
use Rattle.mxf_klv.specs.Rising.{In}
use Rattle.mxf_catalogue.specs.Disputes.{DisputedParts}
use Rattle.mxf_readings.specs.Readings.{is_held}
use Rattle.mxf_skim.specs.PassedOver.{is_of_container, skimmed}

-- No two notes of a container's packets are alike: those with one head are one note.
abbrev pub NoneAlike : List NoteParts → Type 0
NoneAlike notes = (m n : NoteParts) → In m notes → In n notes → is_of_container m ≡ true → is_of_container n ≡ true
    → head_note m ≡ head_note n → m ≡ n

-- What a skim notes where a reading notes this, beside catalogues that have these: what they have stays.
abbrev pub noted_beside : List NoteParts → NoteParts → NoteParts
noted_beside saved n = if is_held n saved then n else skimmed n

-- The notes of a skim where these are those of the reading, both beside catalogues that have the first.
abbrev pub skim_beside : List NoteParts → List NoteParts → List NoteParts
skim_beside saved notes = map (noted_beside saved) notes

-- The same beside none: each packet of a container was passed over.
abbrev pub skim_of : List NoteParts → List NoteParts
skim_of notes = map skimmed notes

-- A disputed note of such a skim where this is that of the reading: it is disputed in the same ways.
abbrev pub disputed_beside : List NoteParts → DisputedParts → DisputedParts
disputed_beside saved d =
    record { note = noted_beside saved d.note; same_offset = d.same_offset; overlaps = d.overlaps }
