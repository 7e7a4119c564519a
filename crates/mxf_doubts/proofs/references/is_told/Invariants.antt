-- All to come are told if and only if all are.
use Rattle.std.proofs.Common.{◌≡◌}
use Rattle.std.specs.List.{list_all}
use Rattle.std.specs.Prelude.{Some}
use Rattle.mxf_doubts.specs.Header.{is_told_from, is_told_note}
use Rattle.mxf_doubts.proofs.references.is_told.Given as goal

abbrev pub invariant-loop-note : goal.invariant-loop-note
invariant-loop-note l = list_all is_told_note l.note-iterator ≡ is_told_from l.views l.bytes (Some l.start)
