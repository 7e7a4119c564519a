-- What has passed is counted, and the counts fit.
use Rattle.mxf_views.proofs.Common.{◌≡◌, ◌+◌, ◌<◌, ◌^◌, length, count_by, clear_notes, is_rip_note}
use Rattle.mxf_views.proofs.TallyLaws.{has_pack, has_segment}
use Rattle.mxf_views.proofs.kept.tally.Tally.of.Given as goal

abbrev pub invariant-loop-note : goal.invariant-loop-note
invariant-loop-note l = (l.packs + count_by has_pack l.note-iterator ≡ count_by has_pack (clear_notes l.catalogue))
    × (l.segments + count_by has_segment l.note-iterator ≡ count_by has_segment (clear_notes l.catalogue))
    × (l.random_index_packs + count_by is_rip_note l.note-iterator ≡ count_by is_rip_note (clear_notes l.catalogue))
    × (l.packs + length l.note-iterator < 2 ^ 64) × (l.segments + length l.note-iterator < 2 ^ 64)
    × (l.random_index_packs + length l.note-iterator < 2 ^ 64)
