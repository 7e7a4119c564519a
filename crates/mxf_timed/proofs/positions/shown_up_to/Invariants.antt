use Rattle.std.proofs.Common.{◌≡◌, ◌+◌, ◌-◌, ◌%◌}
use Rattle.mxf_timed.specs.Positions.{IsAnswer}
use Rattle.mxf_timed.proofs.RangeLaws.{IsRangeBelow, place_of}
use Rattle.mxf_timed.proofs.positions.shown_up_to.Given as goal

abbrev pub invariant-numbers : goal.invariant-numbers
invariant-numbers l = record {
  answer : IsAnswer (IsRangeBelow l.run l.fn.word l.gone) l.found;
  label : (l.run.number + l.gone) % l.day ≡ place_of l.run l.fn.word;
}

abbrev pub decreases-numbers : goal.decreases-numbers
decreases-numbers l = l.last + 1 - l.gone
