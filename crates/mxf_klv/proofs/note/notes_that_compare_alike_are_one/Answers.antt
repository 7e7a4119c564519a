use Rattle.mxf_klv.specs.NoteOrder.{note_total, note_cmp-IsAntisymmetric}
use Rattle.mxf_klv.proofs.note.notes_that_compare_alike_are_one.Goals as goal

pub returns-clause-total : goal.returns-clause-total
returns-clause-total c = note_total

pub returns-clause-one : goal.returns-clause-one
returns-clause-one c = note_cmp-IsAntisymmetric
