use Rattle.std.proofs.Common.{◌≡◌, ◌++◌, drop, map, filter}
use Rattle.mxf_doubts.specs.declared.doubt.Code.TheVariants.{G03}
use Rattle.mxf_doubts.specs.Codes.{doubt}
use Rattle.mxf_doubts.specs.Doubts.{doubts_for}
use Rattle.mxf_doubts.specs.IndexFit.{is_index_misfit}
use Rattle.mxf_doubts.proofs.doubt.collected.Collected.add_partitions.Given as goal

abbrev pub invariant-loop-partition : goal.invariant-loop-partition
invariant-loop-partition l = l.self ++
    (map (doubt G03) (map (λ p. p.offset) (filter (is_index_misfit l.asked) (drop l.partition-index l.partition-items))))
    ≡ l.fn.self ++ (doubts_for G03 l.asked)
