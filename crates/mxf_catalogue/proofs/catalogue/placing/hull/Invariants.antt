use Rattle.std.proofs.Common.{◌≡◌, drop, map}
use Rattle.mxf_catalogue.specs.Covers.{spanned}
use Rattle.mxf_catalogue.specs.NoteLists.{run_of}
use Rattle.mxf_catalogue.proofs.catalogue.placing.hull.Given as goal

abbrev pub invariant-loop-other : goal.invariant-loop-other
invariant-loop-other l = spanned l.all (map run_of (drop l.other-index l.others)) ≡ spanned (run_of l.note)
    (map run_of l.others)
