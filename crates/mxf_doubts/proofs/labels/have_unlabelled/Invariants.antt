-- One to come lacks a label if and only if one does.
use Rattle.std.proofs.Common.{◌≡◌, ℕ}
use Rattle.std.specs.List.{list_any}
use Rattle.mxf_sets.specs.Batch.{BatchParts}
use Rattle.mxf_sets.specs.PackReadings.{label_of}
use Rattle.mxf_sets.specs.PrimerTable.{label_in}
use Rattle.mxf_doubts.specs.Header.{lacks_label}
use Rattle.mxf_doubts.proofs.labels.have_unlabelled.Given as goal

abbrev pub invariant-loop-item : goal.invariant-loop-item
invariant-loop-item l = (primer : BatchParts) → ((tag : ℕ) → label_in l.labels tag ≡ label_of tag primer)
    → list_any (lacks_label primer) l.item-iterator ≡ list_any (lacks_label primer) l.fn.items
