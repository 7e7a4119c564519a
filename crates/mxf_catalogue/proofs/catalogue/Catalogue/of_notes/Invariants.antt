-- What is there and what is to come make up the notes.
use Rattle.mxf_klv.proofs.Common.{◌≡◌, into_iter_items}
use Rattle.mxf_catalogue.specs.Content.{reduced_union}
use Rattle.mxf_catalogue.proofs.catalogue.Catalogue.of_notes.Given as goal

abbrev pub invariant-loop-note : goal.invariant-loop-note
invariant-loop-note l = reduced_union l.all (into_iter_items l.note-iterator) ≡ l.fn.notes.items
