use Rattle.std.proofs.Common.{rules}
use Rattle.mxf_sets.proofs.Numbers.{number_written}
use Rattle.mxf_sets.proofs.pack.fixed_numbers.NumberWriter.u64.Goals as goal

pub returns-clause-number : goal.returns-clause-number
returns-clause-number c = rw (← c.self.view_is, c.write_u64.ensures) (search (rules, number_written))
