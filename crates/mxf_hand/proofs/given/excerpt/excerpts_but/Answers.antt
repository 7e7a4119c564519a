use Rattle.mxf_views.proofs.Common.{◌≡◌, ◌∙◌, ◌↔◌, ◌⊎◌, ◌+◌, ◌<◌, ◌≤◌, ℕ, List, LiesIn, Some, ap, arith, length}
use Rattle.mxf_views.proofs.Common.{slice_get, subst, sym}
use Rattle.mxf_views.proofs.Common.{slice_get-get_or}
use Rattle.mxf_catalogue.specs.declared.run.Run.{Run}
use Rattle.mxf_hand.specs.Excerpts.{AreExcerpts}
use Rattle.mxf_hand.proofs.ExcerptLaws.{excerpts_next, given_next}
use Rattle.mxf_hand.proofs.OutsideLaws.{LiesIn-with_some}
use Rattle.mxf_hand.proofs.given.excerpt.excerpts_but.Goals as goal

pub loop-source-preserved : goal.loop-source-preserved
loop-source-preserved c =
    let extents = c.args.extents.now in
    let source = c.loop-source.source in
    let own = c.index-extents-source.result in
    let is : slice_get extents source ≡ Some own =
    slice_get-get_or extents source own c.loop-source-test.true ∙ ap Some (sym c.index-extents-source.is) in
    let start = own.offset in
    let end = own.offset + own.size in
    let passed = c.args.passed.now in
    let given = c.loop-source.given in
    let left = c.in_ok-left.left in
    let old = c.loop-source.excerpts.items in
    let new = c.add_excerpts.new.excerpts.items in
    let before = c.loop-source.invariant.given in
    let are = c.loop-source.invariant.are in
    let leaves = c.in_ok-left.ensures.offsets in
    let more = c.in_ok-add_excerpts.ensures in record {
      are = excerpts_next passed extents source own given left old new is are before leaves more;
      given = given_next passed extents source own given left old new is are before leaves more
          c.add_some.new.outside (λ x.
          subst (λ (runs : List Run). LiesIn runs x ↔ LiesIn given x ⊎ ((start ≤ x) × (x < end)))
          (sym c.in_ok-add_some.ensures) (LiesIn-with_some start end given x));
    }

pub returns : goal.returns
returns c =
    let all = c.loop-source-test.false in
    let end = c.loop-source.auto.source-end in
    let same : c.loop-source.source ≡ length c.args.extents.now = omega (arith, all, end) in
    subst (λ (count : ℕ). AreExcerpts c.args.passed.now c.args.extents.now count c.loop-source.excerpts.items) same
    c.loop-source.invariant.are
