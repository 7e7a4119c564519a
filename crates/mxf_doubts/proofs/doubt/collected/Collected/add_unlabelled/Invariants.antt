use Rattle.std.proofs.Common.{◌≡◌, ◌++◌, drop, map, filter_map}
use Rattle.mxf_doubts.specs.declared.doubt.Code.TheVariants.{G10}
use Rattle.mxf_doubts.specs.Codes.{doubt}
use Rattle.mxf_doubts.specs.Doubts.{doubts_for}
use Rattle.mxf_doubts.specs.Header.{first_unlabelled}
use Rattle.mxf_doubts.proofs.doubt.collected.Collected.add_unlabelled.Given as goal

abbrev pub invariant-loop-copy : goal.invariant-loop-copy
invariant-loop-copy l = l.self ++
    (map (doubt G10) (filter_map (first_unlabelled l.asked) (drop l.copy-index l.copy-items)))
    ≡ l.fn.self ++ (doubts_for G10 l.asked)
