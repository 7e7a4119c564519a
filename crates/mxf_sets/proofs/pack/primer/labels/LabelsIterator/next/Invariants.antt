use Rattle.mxf_klv.proofs.Common.{◌≡◌, length, AllByRecursion}
use Rattle.mxf_sets.specs.PackReadings.{labels_among}
use Rattle.mxf_sets.proofs.pack.primer.labels.LabelsIterator.next.Given as goal

abbrev pub invariant-loop-entry : goal.invariant-loop-entry
invariant-loop-entry l = (labels_among l.self-inside.tag l.self-inside.entries ≡ l.fn.self)
    × AllByRecursion (λ entry. length entry ≡ 18) l.self-inside.entries

abbrev pub decreases-loop-entry : goal.decreases-loop-entry
decreases-loop-entry l = length l.self-inside.entries
