-- What is there and what the notes to come give are what all do, and these are notes of the content.
use Rattle.mxf_klv.proofs.Common.{◌≡◌, ◌++◌, map, NoteParts, In}
use Rattle.mxf_find.specs.Votes.{teller_in}
use Rattle.mxf_find.proofs.fragment.tellers_of.Given as goal

abbrev pub invariant-loop-note : goal.invariant-loop-note
invariant-loop-note l =
    (l.tellers.items ++ map (teller_in l.content) l.note-iterator ≡ map (teller_in l.content) l.content)
    × ((n : NoteParts) → In n l.note-iterator → In n l.content)
