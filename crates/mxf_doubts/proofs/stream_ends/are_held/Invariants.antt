use Rattle.mxf_views.proofs.Common.{◌≡◌, list_all}
use Rattle.mxf_doubts.specs.StreamEnds.{is_held_entry}
use Rattle.mxf_doubts.proofs.stream_ends.are_held.Given as goal

abbrev pub invariant-loop-entry : goal.invariant-loop-entry
invariant-loop-entry l = list_all is_held_entry l.entry-iterator ≡ list_all is_held_entry l.fn.entries
