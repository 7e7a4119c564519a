use Rattle.std.proofs.Common.{rules, arith}
use Rattle.mxf_sets.proofs.ReferenceLemmas.{first_reference}
use Rattle.mxf_sets.proofs.record.references.ReferencesIterator.next.Goals as goal

pub returns-clause-steps : goal.returns-clause-steps
returns-clause-steps c = grind (arith, first_reference)

pub returns-clause-goes : goal.returns-clause-goes
returns-clause-goes c = rw (returns-clause-steps c) (search rules)
