use Rattle.mxf_views.proofs.Common.{◌∙◌, ◌++◌, ◌^◌, ◌<◌, length, subst, sym, gaps_of}
use Rattle.mxf_views.proofs.GapsLaws.{few_gaps, gaps_are}
use Rattle.mxf_views.proofs.SpanGaps.{gaps_of-spans}
use Rattle.mxf_views.proofs.gap.Gaps.of.Goals as goal

pub returns-clause-gaps : goal.returns-clause-gaps
returns-clause-gaps c =
    let runs = c.spans-spans.result.now in
    let notes = c.args.catalogue.now in
    (λ i. c.gaps.ensures.gaps i ++ c.range.ensures i)
    ∙ gaps_of-spans runs notes c.end.result c.end-2.result c.gaps.ensures.cover c.spans-spans.ensures.spans
    c.end.ensures
    c.end-2.ensures c.spans-spans.ensures.catalogue.content

pub returns-clause-bound : goal.returns-clause-bound
returns-clause-bound c =
    let notes = c.args.catalogue.now in
    subst (λ l. length l < 2 ^ 64) (sym (returns-clause-gaps c))
    (few_gaps notes (gaps_of notes) c.spans-spans.ensures.catalogue
    (gaps_are notes c.spans-spans.ensures.catalogue.content))
