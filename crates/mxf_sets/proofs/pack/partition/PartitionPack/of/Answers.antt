use Rattle.std.proofs.Common.{rules, arith}
use Rattle.mxf_sets.proofs.pack.partition.PartitionPack.of.Goals as goal

pub invariant_of-result : goal.invariant_of-result
invariant_of-result c = record {
  numbers = search rules;
  pattern = search rules;
  containers = c.is_empty.ensures.batch;
  labels = grind arith;
}
