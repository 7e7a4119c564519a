-- Readings of a recording beside each other: which source holds which note (this project's profile). A source is its
-- content, and sources have numbers from 1 on.
use Rattle.std.specs.Prelude.{◌≡◌, ℕ, ◌+◌, ◌==◌, ◌&&◌, Bool, if◌then◌else◌, List, [], ◌∷◌, count_by, length}
use Rattle.std.specs.Prelude.{slice_index_or}
use Rattle.std.specs.List.{list_any}
use Rattle.mxf_klv.specs.Parts.{NoteParts}
use Rattle.mxf_klv.specs.Rising.{In}
use Rattle.mxf_catalogue.specs.Content.{reduced_union}
use Rattle.mxf_catalogue.specs.Disputes.{IsDisputed, is_disputed, is_same_note}
use Rattle.mxf_readings.specs.declared.readings.SourceCounts.{SourceCounts}

-- The content of the source with a number; no note if no source has it.
abbrev pub content_of : ℕ → List (List NoteParts) → List NoteParts
content_of number contents = slice_index_or ([] ∷ contents) number []

-- Some source has the note.
abbrev pub IsHeld : List (List NoteParts) → NoteParts → Type 0
IsHeld contents n = (number : ℕ) × In n (content_of number contents)

-- The union of all contents, reduced. A law says which notes it has.
abbrev pub all_notes : List (List NoteParts) → List NoteParts
all_notes [] = []
all_notes (c ∷ contents) = reduced_union c (all_notes contents)

-- The note is held by all sources together, and by no other source than this one.
pub record IsAlone (number : ℕ) (contents : List (List NoteParts)) (n : NoteParts) : Type 0 where
  pub held : In n (content_of number contents)
  pub joined : In n (all_notes contents)
  pub alone : (other : ℕ) → In n (content_of other contents) → other ≡ number

-- The note is held by all sources together, and another of their notes shares a byte with it.
pub record IsDisputedThere (contents : List (List NoteParts)) (n : NoteParts) : Type 0 where
  pub joined : In n (all_notes contents)
  pub disputed : IsDisputed n (all_notes contents)

-- The same as tests and functions. Laws tie them to the relations above.

abbrev pub is_held : NoteParts → List NoteParts → Bool
is_held n notes = list_any (is_same_note n) notes

-- The numbers of the sources that have the note, in their order, of sources that are numbered from a first on.
abbrev pub sources_from : ℕ → NoteParts → List (List NoteParts) → List ℕ
sources_from first n [] = []
sources_from first n (c ∷ contents) =
    if is_held n c then first ∷ sources_from (first + 1) n contents else sources_from (first + 1) n contents

-- The numbers of the sources that have the note.
abbrev pub sources_of : NoteParts → List (List NoteParts) → List ℕ
sources_of n contents = sources_from 1 n contents

-- Of a note that some source has: it is the only one, and the note is one of all.
abbrev pub is_alone : List (List NoteParts) → NoteParts → Bool
is_alone contents n = is_held n (all_notes contents) && (length (sources_of n contents) == 1)

abbrev pub is_disputed_there : List (List NoteParts) → NoteParts → Bool
is_disputed_there contents n = is_held n (all_notes contents) && is_disputed n (all_notes contents)

-- What the source with a number holds: how many notes, of how many it is the only source, and how many are disputed
-- among all notes.
abbrev pub counts_of : ℕ → List (List NoteParts) → SourceCounts
counts_of number contents = record {
  notes = length (content_of number contents);
  alone = count_by (is_alone contents) (content_of number contents);
  disputed = count_by (is_disputed_there contents) (content_of number contents);
}
