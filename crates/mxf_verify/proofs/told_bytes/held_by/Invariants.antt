-- The runs, with those of what is to come.
use Rattle.mxf_views.proofs.Common.{◌≡◌, [], drop, map, union_of_runs, covered_run}
use Rattle.mxf_verify.specs.Telling.{notes_at}
use Rattle.mxf_verify.proofs.told_bytes.held_by.Given as goal

abbrev pub invariant-loop-note : goal.invariant-loop-note
invariant-loop-note l = union_of_runs l.held (map covered_run (notes_at (drop l.note-index l.notes)))
    ≡ union_of_runs [] (map covered_run (notes_at l.notes))
