-- The notes so far are those of a front, as many as were counted.
use Rattle.std.proofs.Common.{◌≡◌, length}
use Rattle.mxf_catalogue.specs.CatalogueFile.{IsFront}
use Rattle.mxf_catalogue.proofs.catalogue.file.read_notes.Given as goal

abbrev pub invariant-loop-i : goal.invariant-loop-i
invariant-loop-i l = record {
  front : IsFront l.start.version l.bytes l.start.count l.notes.items l.rest;
  counted : length l.notes.items ≡ l.i;
}
