use Rattle.mxf_klv.proofs.Common.{◌≡◌, length, AllByRecursion}
use Rattle.mxf_sets.specs.Batch.{batch_items}
use Rattle.mxf_sets.proofs.TableLaws.{IsTold}
use Rattle.mxf_sets.proofs.pack.primer.table.PrimerLabels.of.Given as goal

abbrev pub invariant-loop-entry : goal.invariant-loop-entry
invariant-loop-entry l = IsTold l.labels.entries l.entry-iterator (batch_items l.fn.primer)
    × AllByRecursion (λ entry. length entry ≡ 18) l.entry-iterator
