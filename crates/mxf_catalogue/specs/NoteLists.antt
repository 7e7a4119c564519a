-- A content in two parts, its undisputed notes and its disputed ones, and what a new note moves (this project's
-- profile).
use Rattle.std.specs.Prelude.{◌≢◌, ◌↔◌, ◌⊎◌, ℕ, List, filter, map, not}
use Rattle.mxf_klv.specs.Parts.{NoteParts}
use Rattle.mxf_klv.specs.Note.{IsCovered, IsInSpan, covered_end, end_of}
use Rattle.mxf_klv.specs.Rising.{In}
use Rattle.mxf_catalogue.specs.declared.catalogue.note_lists.NoteLists.{NoteLists}
use Rattle.mxf_catalogue.specs.declared.run.Run.{Run}
use Rattle.mxf_catalogue.specs.Content.{AreReduced, IsCatalogue, reduced_with, union_of, with_note}
use Rattle.mxf_catalogue.specs.Covers.{IsCover}
use Rattle.mxf_catalogue.specs.Disputes.{SharesByte, IsDisputed, clear_notes, is_byte_shared, is_disputed}
use Rattle.mxf_catalogue.specs.Runs.{LiesIn, run}

-- No two of the notes share a byte.
abbrev pub StandApart : List NoteParts → Type 0
StandApart notes = (m n : NoteParts) → In m notes → In n notes → m ≢ n → SharesByte m n → ⊥

-- A note of the first part shares no byte with another note, and each of the second shares one with another of it.
pub record AreNoteLists (undisputed disputed : List NoteParts) : Type 0 where
  pub undisputed_is : IsCatalogue undisputed
  pub disputed_is : IsCatalogue disputed
  pub apart : (m n : NoteParts) → In m undisputed → In n undisputed ⊎ In n disputed → m ≢ n → SharesByte m n → ⊥
  pub shared : (n : NoteParts) → In n disputed → IsDisputed n disputed

-- The span of a note as a run.
abbrev pub run_of : NoteParts → Run
run_of n = run n.offset (end_of n)

-- What a note covers as a run.
abbrev pub covered_run : NoteParts → Run
covered_run n = run n.offset (covered_end n)

-- The offset lies in the span of one of the notes.
abbrev pub LiesInSpan : List NoteParts → ℕ → Type 0
LiesInSpan notes offset = (n : NoteParts) × In n notes × IsInSpan n offset

-- One of the notes covers the offset.
abbrev pub LiesInNote : List NoteParts → ℕ → Type 0
LiesInNote notes offset = (n : NoteParts) × In n notes × IsCovered n offset

-- The offsets in the runs are those in the spans of the notes.
abbrev pub Spans : List Run → List NoteParts → Type 0
Spans runs notes = (offset : ℕ) → LiesIn runs offset ↔ LiesInSpan notes offset

-- The offsets in the runs are those that the notes cover.
abbrev pub Covers : List Run → List NoteParts → Type 0
Covers runs notes = (offset : ℕ) → LiesIn runs offset ↔ LiesInNote notes offset

-- The two parts of a reduced content, and the cover of the spans of the second.
pub record AreKeptLists (undisputed disputed : List NoteParts) (disputed_spans : List Run) : Type 0 where
  pub parts : AreNoteLists undisputed disputed
  pub reduced : AreReduced (union_of undisputed disputed)
  pub cover : IsCover disputed_spans
  pub covers : Spans disputed_spans disputed

-- The same with the cover of what both cover.
pub record AreCatalogueFields (undisputed disputed : List NoteParts) (disputed_spans spans : List Run) : Type 0 where
  pub kept : AreKeptLists undisputed disputed disputed_spans
  pub covers : Covers spans (union_of undisputed disputed)

-- The notes that are kept.
abbrev pub notes_of : NoteLists → List NoteParts
notes_of kept = union_of kept.undisputed.items kept.disputed.items

abbrev pub AreInParts : NoteLists → Type 0
AreInParts kept = AreNoteLists kept.undisputed.items kept.disputed.items

abbrev pub AreKept : NoteLists → Type 0
AreKept kept = AreKeptLists kept.undisputed.items kept.disputed.items kept.disputed_spans.items

abbrev pub AreCatalogueOf : NoteLists → List Run → Type 0
AreCatalogueOf kept = AreCatalogueFields kept.undisputed.items kept.disputed.items kept.disputed_spans.items

-- Of some notes those that share a byte with the note.
abbrev pub touching : NoteParts → List NoteParts → List NoteParts
touching x notes = filter (λ n. is_byte_shared x n) notes

-- Of some notes those that share none with it.
abbrev pub away_from : NoteParts → List NoteParts → List NoteParts
away_from x notes = filter (λ n. not (is_byte_shared x n)) notes

-- The disputed part, once a note is there that shares a byte with another: it takes the clear notes that it touches.
abbrev pub disputed_with : NoteParts → List NoteParts → List NoteParts → List NoteParts
disputed_with x undisputed disputed = with_note x (union_of disputed (touching x undisputed))

-- The notes that were clear before and are disputed once a note is there.
unfoldable pub moved_notes : NoteParts → List NoteParts → List NoteParts
moved_notes n notes = filter (λ m. is_disputed m (reduced_with n notes)) (clear_notes notes)

-- Their offsets.
abbrev pub moved_by : NoteParts → List NoteParts → List ℕ
moved_by n notes = map (λ m. m.offset) (moved_notes n notes)
