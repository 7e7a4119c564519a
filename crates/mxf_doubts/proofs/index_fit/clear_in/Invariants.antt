-- The runs, with those of the clear notes that are to come.
use Rattle.mxf_views.proofs.Common.{◌≡◌, [], clear_notes, covered_run, map, union_of_runs}
use Rattle.mxf_doubts.proofs.index_fit.clear_in.Given as goal

abbrev pub invariant-loop-note : goal.invariant-loop-note
invariant-loop-note l = union_of_runs l.cover (map covered_run l.note-iterator)
    ≡ union_of_runs [] (map covered_run (clear_notes l.catalogue))
