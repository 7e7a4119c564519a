-- The runs, with those of the packets that are to come.
use Rattle.mxf_views.proofs.Common.{◌≡◌, [], clear_notes, filter, map, union_of_runs}
use Rattle.mxf_doubts.specs.UnitStarts.{leads_to_packet}
use Rattle.mxf_doubts.proofs.MissLaws.{amid_run}
use Rattle.mxf_doubts.proofs.starts.packets.misses_in.Given as goal

abbrev pub invariant-loop-note : goal.invariant-loop-note
invariant-loop-note l = union_of_runs l.cover (map amid_run (filter (leads_to_packet l.catalogue) l.note-iterator))
    ≡ union_of_runs [] (map amid_run (filter (leads_to_packet l.catalogue) (clear_notes l.catalogue)))
