use Rattle.mxf_klv.specs.NoteOrder.{note_cmp-IsAntisymmetric}
use Rattle.mxf_verify.proofs.note_set.put_in_order.Goals as goal

pub sort_once-requires : goal.sort_once-requires
sort_once-requires c = note_cmp-IsAntisymmetric
