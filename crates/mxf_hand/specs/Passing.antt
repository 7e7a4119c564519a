-- What a skim doesn't compare, by walks over notes (this project's profile).
use Rattle.std.specs.Prelude.{◌+◌, ◌-◌, List, [], ◌∷◌, if◌then◌else◌, min, not}
use Rattle.mxf_klv.specs.Note.{end_of, greatest_end}
use Rattle.mxf_klv.specs.Parts.{NoteParts}
use Rattle.mxf_catalogue.specs.declared.run.Run.{Run}
use Rattle.mxf_skim.specs.PassedOver.{is_of_container}
use Rattle.mxf_hand.specs.Outside.{with_some}

-- Runs with the offsets inside the note's value, if that is of a container's packet.
abbrev pub with_inside : NoteParts → List Run → List Run
with_inside n runs =
    if is_of_container n then with_some (n.offset + 16 + n.width + 511) (end_of n - 511) runs else runs

-- Runs with the offsets around the note's packet, if it is a head.
abbrev pub with_around : NoteParts → List Run → List Run
with_around n runs =
    if not n.whole then with_some (n.offset - 511) (min (end_of n + 511) greatest_end) runs else runs

-- Runs with what each note adds, one after another.
abbrev pub with_each : (NoteParts → List Run → List Run) → List Run → List NoteParts → List Run
with_each add runs [] = runs
with_each add runs (n ∷ notes) = with_each add (add n runs) notes
