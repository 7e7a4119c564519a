use Rattle.mxf_views.proofs.Common.{◌∙◌, List, SegmentAtParts, at_drop_all, list_all, sym}
use Rattle.mxf_clocks.specs.TracksFor.{agrees, is_timed}
use Rattle.mxf_clocks.proofs.RateTableLaws.{timed-next, timed_yet}
use Rattle.mxf_clocks.proofs.index_rates.IndexRates.of.Goals as goal

pub loop-segment-preserved : goal.loop-segment-preserved
loop-segment-preserved c = λ index_sid rate.
    let l = c.loop-segment in
    let segments = c.args.segments.now in
    timed-next l.rates.by_index c.add.new.self.by_index segments l.segment-index c.segment-item.result index_sid rate
    (list_all (agrees index_sid rate) segments) c.loop-segment-test.true c.segment-item.is
    (c.in_ok-add.ensures index_sid rate) (l.invariant index_sid rate)

pub returns : goal.returns
unfolding is_timed
returns c = λ index_sid rate.
    let l = c.loop-segment in
    sym (at_drop_all (λ (left : List SegmentAtParts). timed_yet l.rates.by_index left index_sid rate)
    c.args.segments.now l.segment-index c.loop-segment-test.false) ∙ l.invariant index_sid rate
