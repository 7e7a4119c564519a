-- The excerpts of the sources so far, and what these give.
use Rattle.mxf_views.proofs.Common.{◌↔◌, ℕ, LiesIn}
use Rattle.mxf_hand.specs.Excerpts.{AreExcerpts, IsOffsetOf}
use Rattle.mxf_hand.proofs.given.excerpt.excerpts_but.Given as goal

abbrev pub invariant-loop-source : goal.invariant-loop-source
invariant-loop-source l = record {
  are : AreExcerpts l.passed l.extents l.source l.excerpts.items;
  given : (x : ℕ) → LiesIn l.given x ↔ ((number : ℕ) × IsOffsetOf l.extents l.source number x);
}
