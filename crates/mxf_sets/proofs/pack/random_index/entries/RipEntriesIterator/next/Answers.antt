use Rattle.std.proofs.Common.{◌≡◌, ◌∷◌, arith}
use Rattle.mxf_sets.specs.RandomIndexPack.{entries_by}
use Rattle.mxf_sets.proofs.pack.random_index.entries.RipEntriesIterator.next.Goals as goal

gives_first : (c : goal.After-left-2-1)
    → c.args.self.now ≡ c.read_entry-entry.result ∷ entries_by c.in_ok-count.count c.split_at.result.1.now
gives_first c = grind arith

pub returns-clause-steps : goal.returns-clause-steps
returns-clause-steps c = gives_first c

pub returns-clause-goes : goal.returns-clause-goes
returns-clause-goes c = grind (arith, gives_first)
