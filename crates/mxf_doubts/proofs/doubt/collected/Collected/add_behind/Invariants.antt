use Rattle.std.proofs.Common.{◌≡◌, ◌++◌, map, filter}
use Rattle.mxf_doubts.specs.declared.doubt.Code.TheVariants.{G11}
use Rattle.mxf_doubts.specs.Codes.{doubt}
use Rattle.mxf_doubts.specs.Doubts.{doubts_for}
use Rattle.mxf_doubts.specs.StreamEnds.{is_behind_end}
use Rattle.mxf_doubts.proofs.doubt.collected.Collected.add_behind.Given as goal

abbrev pub invariant-loop-segment : goal.invariant-loop-segment
invariant-loop-segment l = l.self ++ (map (doubt G11) (map (λ s. s.offset) (filter (is_behind_end l.asked) l.segment-iterator)))
    ≡ l.fn.self ++ (doubts_for G11 l.asked)
