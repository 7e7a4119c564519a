-- The set, with the offsets that are to come.
use Rattle.mxf_views.proofs.Common.{◌≡◌, [], drop, map, union_of_runs}
use Rattle.mxf_map.proofs.LayerLaws.{first_byte}
use Rattle.mxf_map.proofs.map.offsets.set_of.Given as goal

abbrev pub invariant-loop-offset : goal.invariant-loop-offset
invariant-loop-offset l =
    union_of_runs l.set (map first_byte (drop l.offset-index l.offsets)) ≡ union_of_runs [] (map first_byte l.offsets)
