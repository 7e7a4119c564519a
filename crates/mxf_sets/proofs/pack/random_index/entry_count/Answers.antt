use Rattle.std.proofs.Common.{arith, sym}
use Rattle.mxf_sets.proofs.RipLaws.{entries_are, length-entries_of}
use Rattle.mxf_sets.proofs.pack.random_index.entry_count.Goals as goal

pub returns-clause-count : goal.returns-clause-count
returns-clause-count c = sym (length-entries_of c.args.entries.now)

pub returns-clause-each : goal.returns-clause-each
returns-clause-each c = (entries_are c.args.entries.now c.requires (λ i. omega (arith, c.type_inv.entries i))).1

pub returns-clause-bytes : goal.returns-clause-bytes
returns-clause-bytes c = (entries_are c.args.entries.now c.requires (λ i. omega (arith, c.type_inv.entries i))).0
