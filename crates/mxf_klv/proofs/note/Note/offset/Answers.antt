use Rattle.mxf_klv.proofs.Keeping.{length-kept_bytes}
use Rattle.mxf_klv.proofs.note.Note.offset.Goals as goal

pub returns-clause-note : goal.returns-clause-note
returns-clause-note c =
    let i = c.self.invariant in
    rw (← c.self.view_is)
    (record {
      label = i.label;
      width = i.width;
      within = i.within;
      held = length-kept_bytes c.self.inside.kept c.self.inside.length i.value;
    })
