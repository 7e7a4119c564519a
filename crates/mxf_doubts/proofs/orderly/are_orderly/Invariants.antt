-- All to come are orderly if and only if all are.
use Rattle.std.proofs.Common.{◌≡◌}
use Rattle.std.specs.List.{list_all}
use Rattle.std.specs.Prelude.{Some}
use Rattle.mxf_doubts.specs.Header.{is_orderly_from, is_orderly_note}
use Rattle.mxf_doubts.proofs.orderly.are_orderly.Given as goal

abbrev pub invariant-loop-note : goal.invariant-loop-note
invariant-loop-note l =
    list_all (is_orderly_note l.start) l.note-iterator ≡ is_orderly_from l.views l.bytes (Some l.start)
