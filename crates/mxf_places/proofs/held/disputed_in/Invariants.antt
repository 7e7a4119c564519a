-- The runs, with those of the disputed notes that are to come.
use Rattle.mxf_views.proofs.Common.{◌≡◌, [], map, union_of_runs, disputed_notes, covered_run}
use Rattle.mxf_places.proofs.held.disputed_in.Given as goal

abbrev pub invariant-loop-disputed : goal.invariant-loop-disputed
invariant-loop-disputed l = union_of_runs l.cover (map covered_run (map (λ d. d.note) l.disputed-iterator))
    ≡ union_of_runs [] (map covered_run (map (λ d. d.note) (disputed_notes l.catalogue)))
