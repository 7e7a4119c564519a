-- What is there and what is to come are what was there and the notes of the source.
use Rattle.std.proofs.Common.{◌≡◌, ◌++◌, map}
use Rattle.mxf_readings.specs.Holdings.{holding}
use Rattle.mxf_readings.proofs.holding.add_notes.Given as goal

abbrev pub invariant-loop-note : goal.invariant-loop-note
invariant-loop-note l = l.holdings.items ++ map (holding l.source) l.note-iterator
    ≡ l.initial.holdings.items ++ map (holding l.source) l.content
