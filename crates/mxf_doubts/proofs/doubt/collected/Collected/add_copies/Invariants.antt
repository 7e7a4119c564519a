use Rattle.std.proofs.Common.{◌≡◌, ◌++◌, drop, map, filter}
use Rattle.mxf_doubts.specs.declared.doubt.Code.TheVariants.{G01}
use Rattle.mxf_doubts.specs.Codes.{doubt}
use Rattle.mxf_doubts.specs.Doubts.{doubts_for}
use Rattle.mxf_doubts.specs.Header.{lacks_preface}
use Rattle.mxf_doubts.proofs.doubt.collected.Collected.add_copies.Given as goal

abbrev pub invariant-loop-copy : goal.invariant-loop-copy
invariant-loop-copy l = l.self ++
    (map (doubt G01) (map (λ c. c.partition) (filter (lacks_preface l.asked) (drop l.copy-index l.copy-items))))
    ≡ l.fn.self ++ (doubts_for G01 l.asked)
