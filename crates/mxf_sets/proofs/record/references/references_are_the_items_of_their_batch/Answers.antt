use Rattle.mxf_sets.proofs.ReferenceLemmas.{references_whole, references_wide}
use Rattle.mxf_sets.proofs.record.references.references_are_the_items_of_their_batch.Goals as goal

pub returns-clause-items : goal.returns-clause-items
returns-clause-items c = references_whole

pub returns-clause-width : goal.returns-clause-width
returns-clause-width c = references_wide
