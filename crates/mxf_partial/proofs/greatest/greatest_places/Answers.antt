use Rattle.mxf_views.proofs.Common.{◌≡◌, ◌∙◌, ap, sym, subst, List, SegmentParts, SegmentAtParts, segments_of}
use Rattle.mxf_sets.specs.declared.segment.numbers.SegmentNumbers.{SegmentNumbers}
use Rattle.mxf_partial.specs.declared.greatest.GreatestPlace.{GreatestPlace}
use Rattle.mxf_partial.proofs.GreatestLaws.{Passed, all_greatest, passed_more, passed_none, passed_other}
use Rattle.mxf_partial.proofs.greatest.greatest_places.Goals as goal

pub loop-segment-init : goal.loop-segment-init
loop-segment-init c =
    let all = c.into_iter-segment-iterator.result in
    let same : all ≡ segments_of c.args.units.now.known.notes =
    c.into_iter-segment-iterator.ensures.into_iter_gives ∙ c.segments-segment-items.ensures.segments
    ∙ ap segments_of (c.views.ensures ∙ c.holdings.ensures) in
    subst (λ (l : List GreatestPlace). Passed c.args.units.now l all) (sym c.new-places.ensures.items)
    (passed_none c.args.units.now all same)

pub loop-segment-preserved-in-Continue-1 : goal.loop-segment-preserved-in-Continue-1
loop-segment-preserved-in-Continue-1 c =
    let s = c.in-Some.segment in
    let same : c.segment.inside.segment ≡ s.segment = ap (λ (t : SegmentAtParts). t.segment) c.segment.view_is in
    passed_more c.args.units.now c.loop-segment.places.items c.loop-segment.segment-iterator c.next.new.self s
    c.in-Some.ensures.steps c.loop-segment.invariant c.add_greatest.new.places.items
    (ap (λ (p : SegmentParts). p.numbers.index_sid) (sym same)
    ∙ ap (λ (n : SegmentNumbers). n.index_sid) (sym c.numbers.ensures.numbers) ∙ c.if-numbers-index_sid.true
    ∙ c.index_sid.ensures)
    c.in_ok-add_greatest.ensures

pub loop-segment-preserved : goal.loop-segment-preserved
loop-segment-preserved c =
    let s = c.in-Some.segment in
    let same : c.segment.inside.segment ≡ s.segment = ap (λ (t : SegmentAtParts). t.segment) c.segment.view_is in
    passed_other c.args.units.now c.loop-segment.places.items c.loop-segment.segment-iterator c.next.new.self s
    c.in-Some.ensures.steps c.loop-segment.invariant
    (λ e. c.if-numbers-index_sid.false (ap (λ (n : SegmentNumbers). n.index_sid) c.numbers.ensures.numbers
    ∙ ap (λ (p : SegmentParts). p.numbers.index_sid) same ∙ e ∙ sym c.index_sid.ensures))

pub returns : goal.returns
returns c = all_greatest c.args.units.now c.loop-segment.places.items c.sort_once.new.items.items
    c.loop-segment.segment-iterator c.in-None.ensures.steps.0 c.loop-segment.invariant c.sort_once.ensures.members
    c.sort_once.ensures.rising
