use Rattle.mxf_views.proofs.Common.{NoteParts, List, subst}
use Rattle.mxf_hand.specs.Excerpts.{ArePassed}
use Rattle.mxf_hand.proofs.ExcerptLaws.{if_ok}
use Rattle.mxf_hand.proofs.given.excerpt.excerpts.Goals as goal

pub returns : goal.returns
returns c = if_ok c.excerpts_but.result _ _ c.excerpts_but.ensures (λ v are. record {
  passed = c.in_ok-passed.passed;
  are_passed = subst (λ (notes : List NoteParts). ArePassed c.args.scan notes c.in_ok-passed.passed) c.catalogue.ensures
      c.in_ok-passed.ensures.passed;
  are = are;
})
