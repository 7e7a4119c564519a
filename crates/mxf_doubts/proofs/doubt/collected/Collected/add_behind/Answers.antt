use Rattle.std.proofs.Common.{append-nil, ◌∙◌, ◌++◌, List, sym, ap, map, filter}
use Rattle.mxf_views.specs.Places.{SegmentAtParts}
use Rattle.mxf_doubts.specs.declared.doubt.Code.TheVariants.{G11}
use Rattle.mxf_doubts.specs.Codes.{doubt}
use Rattle.mxf_doubts.specs.StreamEnds.{is_behind_end}
use Rattle.mxf_doubts.proofs.doubt.collected.Collected.add_behind.Goals as goal

pub returns : goal.returns
returns c = sym (append-nil c.loop-segment.self) ∙ sym (ap (λ (l : List SegmentAtParts).
    c.loop-segment.self ++ map (doubt G11) (map (λ s. s.offset) (filter (is_behind_end c.args.asked.now) l)))
    c.in-None.ensures.steps.0) ∙ c.loop-segment.invariant
