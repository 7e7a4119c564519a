use Rattle.mxf_catalogue.proofs.FileParts.{above_last}
use Rattle.mxf_catalogue.proofs.catalogue.file.is_above.Goals as goal

pub returns-in-Some : goal.returns-in-Some
returns-in-Some c = above_last c.args.notes.now c.in-Some.last.now c.args.note.now c.eq.result c.in-Some.ensures.value
    c.requires (rw c.cmp.ensures at c.eq.ensures)
