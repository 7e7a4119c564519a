-- The notes that were there, and behind them those so far.
use Rattle.std.proofs.Common.{◌≡◌, ◌++◌, take}
use Rattle.mxf_verify.specs.Telling.{notes_at}
use Rattle.mxf_verify.proofs.note_set.push_all.Given as goal

abbrev pub invariant-loop-note : goal.invariant-loop-note
invariant-loop-note l = l.members.items ≡ l.initial.members.items ++ notes_at (take l.note-index l.notes)
