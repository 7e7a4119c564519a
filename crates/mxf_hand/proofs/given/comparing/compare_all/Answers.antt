use Rattle.mxf_views.proofs.Common.{◌∙◌, List, Option, subst, sym, In-at}
use Rattle.mxf_hand.specs.Given.{AreTold, SourceParts}
use Rattle.mxf_hand.specs.Places.{place}
use Rattle.mxf_hand.proofs.ComparingLaws.{all_compared_more}
use Rattle.mxf_hand.proofs.given.comparing.compare_all.Goals as goal

pub compare-requires-clause-overlap : goal.compare-requires-clause-overlap
compare-requires-clause-overlap g c =
    c.requires _ (In-at c.args.overlaps.now c.loop-overlap.overlap-index _ c.loop-overlap-test.true)

pub loop-overlap-preserved : goal.loop-overlap-preserved
loop-overlap-preserved g c =
    let told = c.loop-overlap.invariant.told in record {
      one = c.compare.auto.one ∙ c.loop-overlap.invariant.one;
      other = c.compare.auto.other ∙ c.loop-overlap.invariant.other;
      told = c.in_ok-compare.ensures.told ∙ told;
      noted = λ given are.
          let again = subst (λ (t : Option (List SourceParts)). AreTold t c.args.extents.now given) (sym told) are in
          all_compared_more given c.args.places.now c.args.overlaps.now c.loop-overlap.overlap-index (place 0 0 0)
          c.loop-overlap.differing c.compare.new.differing c.loop-overlap-test.true
          (c.loop-overlap.invariant.noted given are) (c.in_ok-compare.ensures.noted given again);
    }
