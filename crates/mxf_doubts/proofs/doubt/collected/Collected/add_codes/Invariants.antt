use Rattle.std.proofs.Common.{◌≡◌, ◌++◌, drop, flat_map}
use Rattle.mxf_doubts.specs.Doubts.{doubts_for}
use Rattle.mxf_doubts.proofs.doubt.collected.Collected.add_codes.Given as goal

abbrev pub invariant-loop-code : goal.invariant-loop-code
invariant-loop-code l = l.self ++ flat_map (λ code. doubts_for code l.asked) (drop l.code-index l.codes)
    ≡ l.fn.self ++ flat_map (λ code. doubts_for code l.asked) l.codes
