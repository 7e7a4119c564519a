use Rattle.mxf_views.proofs.Common.{◌≡◌, ◌∙◌, length, sym, into_iter_items}
use Rattle.mxf_units.proofs.RepeatedLaws.{all_so_far, none_so_far, one_more}
use Rattle.mxf_units.proofs.repeated.each_once.Goals as goal

pub loop-segment-init : goal.loop-segment-init
loop-segment-init c =
    none_so_far c.args.segments.items _ _ c.new-left.ensures.items
    c.into_iter-segment-iterator.ensures.into_iter_gives.0

pub loop-segment-preserved : goal.loop-segment-preserved
loop-segment-preserved c =
    one_more c.args.segments.items c.loop-segment.left.items _ _ _ c.in-Some.segment c.in-Some.ensures.steps.0
    c.in_ok-add_unless_said.ensures c.loop-segment.invariant

pub returns : goal.returns
returns c =
    let none : length (into_iter_items c.loop-segment.segment-iterator) ≡ 0 =
    sym c.loop-segment.segment-iterator.rest.ok.0 ∙ c.in-None.ensures.steps.0 in
    all_so_far c.args.segments.items c.loop-segment.left.items _ none c.loop-segment.invariant
