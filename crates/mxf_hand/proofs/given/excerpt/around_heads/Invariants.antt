-- The offsets so far, with those of the notes that are to come.
use Rattle.mxf_views.proofs.Common.{◌≡◌, []}
use Rattle.mxf_hand.specs.Passing.{with_around, with_each}
use Rattle.mxf_hand.proofs.given.excerpt.around_heads.Given as goal

abbrev pub invariant-loop-note : goal.invariant-loop-note
invariant-loop-note l = with_each with_around l.cover l.note-iterator ≡ with_each with_around [] l.catalogue
