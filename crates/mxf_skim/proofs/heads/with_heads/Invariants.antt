-- What is saved so far, with the notes that are to come.
use Rattle.std.proofs.Common.{◌≡◌, map}
use Rattle.mxf_catalogue.specs.Content.{reduced_union}
use Rattle.mxf_skim.specs.Saving.{saved_note, with_heads}
use Rattle.mxf_skim.proofs.heads.with_heads.Given as goal

abbrev pub invariant-loop-note : goal.invariant-loop-note
invariant-loop-note l = reduced_union l.saved (map saved_note l.note-iterator) ≡ with_heads l.catalogue
