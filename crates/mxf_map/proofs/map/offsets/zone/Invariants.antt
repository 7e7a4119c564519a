-- The set, with the packets that are to come.
use Rattle.mxf_views.proofs.Common.{◌≡◌, [], map, union_of_runs, clear_notes, run_of}
use Rattle.mxf_map.specs.Layers.{zone_notes}
use Rattle.mxf_map.proofs.map.offsets.zone.Given as goal

abbrev pub invariant-loop-note : goal.invariant-loop-note
invariant-loop-note l = union_of_runs l.set (map run_of (zone_notes l.zone l.note-iterator))
    ≡ union_of_runs [] (map run_of (zone_notes l.zone (clear_notes l.catalogue)))
