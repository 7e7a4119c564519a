-- What is there and what is to come are the notes.
use Rattle.std.proofs.Common.{◌≡◌, ◌++◌}
use Rattle.mxf_find.proofs.packets.listed.Given as goal

abbrev pub invariant-loop-note : goal.invariant-loop-note
invariant-loop-note l = l.packets.items ++ l.note-iterator ≡ l.content
