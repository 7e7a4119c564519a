use Rattle.std.proofs.Common.{arith}
use Rattle.mxf_sets.proofs.RipLaws.{slice_get-entries_of}
use Rattle.mxf_sets.proofs.pack.random_index.Rip.get.Goals as goal

pub returns : goal.returns
returns c = grind (arith, slice_get-entries_of c.args.place)
