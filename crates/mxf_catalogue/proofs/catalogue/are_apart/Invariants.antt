-- Where what is to come stands apart from the last end on, all do.
use Rattle.std.proofs.Common.{drop}
use Rattle.mxf_catalogue.specs.Disputes.{AreApart}
use Rattle.mxf_catalogue.proofs.catalogue.are_apart.Given as goal

abbrev pub invariant-loop-note : goal.invariant-loop-note
invariant-loop-note l = AreApart l.end (drop l.note-index l.notes) → AreApart 0 l.notes
