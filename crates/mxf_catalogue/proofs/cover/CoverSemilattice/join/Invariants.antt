use Rattle.std.proofs.Common.{◌≡◌, drop}
use Rattle.mxf_catalogue.specs.Covers.{IsCover, union_of_runs}
use Rattle.mxf_catalogue.proofs.cover.CoverSemilattice.join.Given as goal

abbrev pub invariant-loop-run : goal.invariant-loop-run
invariant-loop-run l = record {
  all : union_of_runs l.all (drop l.run-index l.run-items) ≡ union_of_runs l.a l.b;
  others : IsCover l.run-items;
}
