use Rattle.std.proofs.Common.{rules, arith}
use Rattle.mxf_sets.proofs.BatchLaws.{first_item}
use Rattle.mxf_sets.proofs.batch.items.BatchItemsIterator.next.Goals as goal

pub returns-clause-steps : goal.returns-clause-steps
returns-clause-steps c = grind (arith, first_item)

pub returns-clause-goes : goal.returns-clause-goes
returns-clause-goes c = rw (returns-clause-steps c) (search rules)
