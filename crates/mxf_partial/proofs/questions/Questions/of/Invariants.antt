-- What was asked so far, with what the units to come ask for.
use Rattle.std.proofs.Common.{◌≡◌, ◌+◌, ◌-◌}
use Rattle.mxf_units.specs.Ranges.{units_from}
use Rattle.mxf_partial.specs.Questions.{asked_by, both}
use Rattle.mxf_partial.proofs.questions.Questions.of.Given as goal

abbrev pub invariant-loop-number : goal.invariant-loop-number
invariant-loop-number l =
    both l.asked (asked_by l.units (units_from l.units l.number (l.first + l.count - l.number)))
    ≡ asked_by l.units (units_from l.units l.first l.count)
