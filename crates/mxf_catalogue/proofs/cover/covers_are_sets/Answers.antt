use Rattle.mxf_catalogue.specs.Covers.{LiesIn-with_run, union_of_runs-IsUnion}
use Rattle.mxf_catalogue.proofs.CoverLaws.{IsCover-with_run, IsCover-union_of_runs}
use Rattle.mxf_catalogue.proofs.cover.covers_are_sets.Goals as goal

pub returns : goal.returns
returns c = record {
  with_run = LiesIn-with_run;
  union = union_of_runs-IsUnion;
  with_run_covers = IsCover-with_run;
  union_covers = IsCover-union_of_runs;
}
