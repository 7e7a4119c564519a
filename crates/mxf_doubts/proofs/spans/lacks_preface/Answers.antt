use Rattle.mxf_views.proofs.Common.{◌∙◌, ◌&&◌, Bool, List, ap, filter, list_any, sym}
use Rattle.mxf_catalogue.specs.Disputes.{clear_notes}
use Rattle.mxf_views.specs.Copies.{is_set_note}
use Rattle.mxf_doubts.specs.declared.spans.Span.{Span}
use Rattle.mxf_doubts.specs.Header.{has_set, is_within}
use Rattle.mxf_doubts.proofs.SpanLaws.{any_span}
use Rattle.mxf_doubts.proofs.spans.lacks_preface.Goals as goal

pub returns-then-is_without_one_preface : goal.returns-then-is_without_one_preface
returns-then-is_without_one_preface c = λ notes e.
    let copy = c.args.copy.now in
    c.has_one_in.ensures ∙ ap (λ (l : List Span). list_any (is_within copy.bytes copy.start) l) e
    ∙ sym (any_span copy.bytes copy.start (filter is_set_note (clear_notes notes)))
    ∙ ap (λ (b : Bool). b && has_set notes copy)
    (sym c.if-is_without_one_preface.true ∙ c.is_without_one_preface.ensures)
