-- What is there and what is to come make up the notes.
use Rattle.std.proofs.Common.{◌≡◌, ◌++◌, drop}
use Rattle.mxf_catalogue.proofs.catalogue.note_lists.copies_of.Given as goal

abbrev pub invariant-loop-note : goal.invariant-loop-note
invariant-loop-note l = l.copies.items ++ drop l.note-index l.notes ≡ l.notes
