-- Some notes were written, and the others are to come.
use Rattle.mxf_klv.proofs.Common.{◌≡◌, ◌+◌, ◌++◌, List, length, Appends, flat_map, NoteParts, counted}
use Rattle.mxf_catalogue.specs.CatalogueFile.{note_bytes}
use Rattle.mxf_catalogue.specs.declared.catalogue.file.start.Version.TheVariants.{Two}
use Rattle.mxf_catalogue.proofs.catalogue.file.put_notes.Given as goal

abbrev pub invariant-notes : goal.invariant-notes
invariant-notes g l = (done : List NoteParts) × (done ++ l.note-iterator ≡ l.fn.notes)
    × Appends (g.W.Write.contents l.initial.writer) (g.W.Write.contents l.writer) (flat_map (note_bytes Two) done)
    × (l.progress.written ≡ counted (l.initial.progress.written + length (flat_map (note_bytes Two) done)))
