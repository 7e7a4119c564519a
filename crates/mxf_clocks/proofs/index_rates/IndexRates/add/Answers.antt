use Rattle.mxf_views.proofs.Common.{◌∙◌, Option, SegmentAtParts, ap, get, nat_cmp}
use Rattle.mxf_sets.specs.declared.record.rate.Rate.{Rate}
use Rattle.mxf_clocks.specs.Lookups.{with_rate}
use Rattle.mxf_clocks.proofs.RateTableLaws.{timed-put}
use Rattle.mxf_clocks.proofs.index_rates.IndexRates.add.Goals as goal

pub returns : goal.returns
returns c =
    let key = c.segment.inside.numbers.index_sid in
    let old = c.args.self.now.by_index in
    let kept = c.with_rate-kept.ensures
    ∙ ap (λ (o : Option (Option Rate)). with_rate o c.index_rate.result) (c.copied.ensures ∙ c.get.ensures.value)
    ∙ ap (with_rate (get nat_cmp old key)) c.index_rate.ensures in
    timed-put old c.insert.new.self key c.args.segment.now c.with_rate-kept.result
    (ap (λ (s : SegmentAtParts). s.segment.numbers.index_sid) c.segment.view_is) kept c.in_ok-insert.ensures.updates.0
