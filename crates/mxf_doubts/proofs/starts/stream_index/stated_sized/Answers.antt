use Rattle.mxf_views.proofs.Common.{◌∙◌, List, ap, filter, filter_same, nat_lt, rules, segments_of}
use Rattle.mxf_views.proofs.NumbersLaws.{filter_mapped}
use Rattle.mxf_doubts.specs.declared.starts.stream_index.StreamIndex.{StreamIndex}
use Rattle.mxf_doubts.specs.UnitStarts.{stream_index_in}
use Rattle.mxf_doubts.proofs.starts.stream_index.stated_sized.Goals as goal

pub returns : goal.returns
returns c =
    filter_same _ _ _ (λ x b f k. search rules) _ _ c.retain.ensures.filtered
    ∙ ap (λ (l : List StreamIndex). filter (λ s. nat_lt 0 s.unit_bytes) l) c.in_ok-streams.ensures
    ∙ filter_mapped (λ (s : StreamIndex). nat_lt 0 s.unit_bytes) stream_index_in (segments_of c.args.views.now)
