-- The first to come is the first of all.
use Rattle.std.proofs.Common.{◌≡◌, ℕ, filter, find}
use Rattle.mxf_sets.specs.Batch.{BatchParts}
use Rattle.mxf_sets.specs.PackReadings.{label_of}
use Rattle.mxf_sets.specs.PrimerTable.{label_in}
use Rattle.mxf_catalogue.specs.Disputes.{clear_notes}
use Rattle.mxf_views.specs.Copies.{is_set_note, sets_in}
use Rattle.mxf_doubts.specs.Header.{lacks_labels}
use Rattle.mxf_doubts.proofs.labels.first_in.Given as goal

abbrev pub invariant-loop-note : goal.invariant-loop-note
invariant-loop-note l = (primer : BatchParts) → ((tag : ℕ) → label_in l.labels tag ≡ label_of tag primer)
    → find (lacks_labels primer) (filter is_set_note l.note-iterator)
    ≡ find (lacks_labels primer) (sets_in l.start l.bytes (clear_notes l.views))
