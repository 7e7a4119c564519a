-- What is found so far, with what is found from there on.
use Rattle.std.proofs.Common.{◌≡◌, ◌++◌, drop}
use Rattle.mxf_partial.specs.SegmentStarts.{greatest_so_far}
use Rattle.mxf_partial.proofs.between.greatest_so_far.Given as goal

abbrev pub invariant-loop-number : goal.invariant-loop-number
invariant-loop-number l =
    l.found.items ++ greatest_so_far l.greatest (drop l.number-index l.numbers) ≡ greatest_so_far 0 l.numbers
