use Rattle.mxf_views.proofs.Common.{◌∙◌, List, NoteParts, SegmentAtParts, ap, ltb-false, nat_lt, segments_of, sym}
use Rattle.mxf_views.proofs.KeyedLists.{keys_never_fall}
use Rattle.mxf_doubts.specs.IndexFit.{has_segment}
use Rattle.mxf_doubts.proofs.FitLaws.{no_segment_hit, segment_hit}
use Rattle.mxf_doubts.proofs.index_fit.IndexFit.has_segment.Goals as goal

pub below-requires : goal.below-requires
below-requires c = keys_never_fall (λ (s : SegmentAtParts). s.offset) _ c.segments_in_numbers-segments.ensures.rising

pub returns-in-None : goal.returns-in-None
returns-in-None c =
    no_segment_hit c.args.start c.args.end (segments_of c.views.result.now) c.segments_in_numbers-segments.result.now
    c.below.result c.segments_in_numbers-segments.ensures.segments c.below.ensures.below
    (ltb-false _ _ (sym c.in-None.ensures.lookup.0))
    ∙ ap (λ (l : List NoteParts). has_segment l c.args.start c.args.end) (c.views.ensures ∙ c.self.view_is)

pub returns-in-Some : goal.returns-in-Some
returns-in-Some c =
    let found = c.in-Some.ensures.lookup.3 in
    ap (λ (s : SegmentAtParts). nat_lt s.offset c.args.end) c.segment.view_is
    ∙ segment_hit c.args.start c.args.end (segments_of c.views.result.now) c.segments_in_numbers-segments.result.now
    c.below.result c.in-Some.segment.now c.segments_in_numbers-segments.ensures.segments
    (keys_never_fall (λ (s : SegmentAtParts). s.offset) _ c.segments_in_numbers-segments.ensures.rising)
    c.below.ensures.below c.below.ensures.above found.0 found.1
    ∙ ap (λ (l : List NoteParts). has_segment l c.args.start c.args.end) (c.views.ensures ∙ c.self.view_is)
