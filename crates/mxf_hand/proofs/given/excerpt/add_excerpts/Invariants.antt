-- The excerpts of the runs that aren't to come are there.
use Rattle.mxf_views.proofs.Common.{◌⊎◌, In}
use Rattle.mxf_catalogue.specs.declared.run.Run.{Run}
use Rattle.mxf_hand.specs.Excerpts.{IsOfRun}
use Rattle.mxf_hand.specs.declared.given.excerpt.Excerpt.{Excerpt}
use Rattle.mxf_hand.proofs.given.excerpt.add_excerpts.Given as goal

abbrev pub invariant-loop-run : goal.invariant-loop-run
invariant-loop-run l = record {
  kept : (e : Excerpt) → In e l.fn.excerpts.items → In e l.excerpts.items;
  come : (e : Excerpt) → In e l.excerpts.items
      → In e l.fn.excerpts.items ⊎ ((r : Run) × In r l.cover × IsOfRun l.source r e);
  there : (r : Run) → In r l.cover
      → In r l.run-iterator ⊎ ((e : Excerpt) × In e l.excerpts.items × IsOfRun l.source r e);
  left : (r : Run) → In r l.run-iterator → In r l.cover;
}
