-- The runs, with those of the packets that are to come and can't be essence.
use Rattle.mxf_views.proofs.Common.{◌≡◌, [], filter, map, union_of_runs, undisputed_notes, covered_run}
use Rattle.mxf_units.proofs.BesideLaws.{cant_be}
use Rattle.mxf_units.proofs.beside.beside_essence.Given as goal

abbrev pub invariant-loop-note : goal.invariant-loop-note
invariant-loop-note l = union_of_runs l.cover (map covered_run (filter cant_be l.note-iterator))
    ≡ union_of_runs [] (map covered_run (filter cant_be (undisputed_notes l.holdings)))
