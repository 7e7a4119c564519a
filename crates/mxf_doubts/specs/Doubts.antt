-- Doubts: where the notes of a file show what damage leaves and ordinary writers don't write (this project's profile).
use Rattle.std.specs.Prelude.{ℕ, Bool, false, ◌&&◌, ◌||◌, not, List, [], map, flat_map, filter}
use Rattle.std.specs.List.{filter_map}
use Rattle.mxf_klv.specs.Parts.{NoteParts}
use Rattle.mxf_klv.specs.Kind.{kind_of}
use Rattle.mxf_klv.specs.Rising.{union}
use Rattle.mxf_catalogue.specs.Disputes.{clear_notes}
use Rattle.mxf_views.specs.Copies.{copies_of, is_fill, is_set_note}
use Rattle.mxf_views.specs.Partitions.{partitions_of}
use Rattle.mxf_views.specs.Places.{segments_of}
use Rattle.mxf_doubts.specs.declared.doubt.Code.{Code}
use Rattle.mxf_doubts.specs.declared.doubt.Code.TheVariants.{G01, G02, G03, G04, G06, G07, G08, G09, G10, G11}
use Rattle.mxf_doubts.specs.declared.doubt.Doubt.{Doubt}
use Rattle.mxf_doubts.specs.Classes.{is_misfit}
use Rattle.mxf_doubts.specs.Codes.{all_codes, doubt, doubt_cmp}
use Rattle.mxf_doubts.specs.Header.{first_unlabelled, lacks_preface, unreferred}
use Rattle.mxf_doubts.specs.IndexFit.{is_index_misfit}
use Rattle.mxf_doubts.specs.Sound.{is_first_primer, is_in_sound_zone}
use Rattle.mxf_doubts.specs.Strange.{is_other, is_strange}
use Rattle.mxf_doubts.specs.StreamEnds.{is_behind_end}
use Rattle.mxf_doubts.specs.Tracks.{is_untracked}
use Rattle.mxf_doubts.specs.UnitStarts.{missed_starts}

-- A packet that header metadata have: a set, a fill, one of no known kind, or the primer pack of a finished copy.
abbrev pub is_of_header : List NoteParts → NoteParts → Bool
is_of_header notes n =
    is_set_note n || is_fill (kind_of n.key) || is_other (kind_of n.key) || is_first_primer notes n

-- A packet in header metadata that is strange, or that header metadata don't have.
unfoldable pub is_strange_inside : List NoteParts → NoteParts → Bool
is_strange_inside notes n = is_in_sound_zone notes n && (is_strange notes n || not (is_of_header notes n))

-- A strange packet anywhere else.
unfoldable pub is_strange_outside : List NoteParts → NoteParts → Bool
is_strange_outside notes n = not (is_in_sound_zone notes n) && is_strange notes n

-- The code is that of what is in doubt about the clear note.
abbrev pub is_note_cause : Code → List NoteParts → NoteParts → Bool
is_note_cause G02 notes n = is_strange_inside notes n
is_note_cause G06 notes n = is_strange_outside notes n
is_note_cause G07 notes n = is_untracked notes n
is_note_cause G08 notes n = is_misfit n
is_note_cause _ notes n = false

abbrev pub clear_at : Code → List NoteParts → List ℕ
clear_at code notes = map (λ n. n.offset) (filter (is_note_cause code notes) (clear_notes notes))

-- Where the cause of a code is met: file offsets, some of which may stand there twice.
abbrev pub offsets_for : Code → List NoteParts → List ℕ
offsets_for G01 notes = map (λ c. c.partition) (filter (lacks_preface notes) (copies_of notes))
offsets_for G02 notes = clear_at G02 notes
offsets_for G03 notes = map (λ p. p.offset) (filter (is_index_misfit notes) (partitions_of notes))
offsets_for G04 notes = missed_starts notes
offsets_for G06 notes = clear_at G06 notes
offsets_for G07 notes = clear_at G07 notes
offsets_for G08 notes = clear_at G08 notes
offsets_for G09 notes = flat_map (unreferred notes) (copies_of notes)
offsets_for G10 notes = filter_map (first_unlabelled notes) (copies_of notes)
offsets_for G11 notes = map (λ s. s.offset) (filter (is_behind_end notes) (segments_of notes))

-- What is in doubt by a code.
abbrev pub doubts_for : Code → List NoteParts → List Doubt
doubts_for code notes = map (doubt code) (offsets_for code notes)

-- What is in doubt by all codes, in its order, none twice.
abbrev pub doubts_of : List NoteParts → List Doubt
doubts_of notes = union doubt_cmp [] (flat_map (λ code. doubts_for code notes) all_codes)
