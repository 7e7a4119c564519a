-- What is found so far, with what is found from there on.
use Rattle.std.proofs.Common.{◌≡◌, ◌++◌, ◌^◌, drop}
use Rattle.mxf_partial.specs.SegmentStarts.{least_so_far}
use Rattle.mxf_partial.proofs.between.least_so_far.Given as goal

abbrev pub invariant-loop-number : goal.invariant-loop-number
invariant-loop-number l =
    l.found.items ++ least_so_far l.least (drop l.number-index l.numbers) ≡ least_so_far (2 ^ 64) l.numbers
