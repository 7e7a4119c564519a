use Rattle.mxf_views.proofs.Common.{List, subst, sym}
use Rattle.std.specs.List.Sorted.{IsNonDecreasingBy}
use Rattle.mxf_catalogue.proofs.SpanLaws.{AreApart-filter}
use Rattle.mxf_catalogue.specs.Disputes.{clear_notes}
use Rattle.mxf_doubts.specs.IndexFit.{is_foreign}
use Rattle.mxf_doubts.specs.declared.spans.Span.{Span}
use Rattle.mxf_doubts.proofs.SpanLaws.{ends_rise, starts_rise}
use Rattle.mxf_doubts.proofs.spans.Spans.of_foreign.Goals as goal

pub invariant_of-result : goal.invariant_of-result
invariant_of-result c =
    let notes = c.args.catalogue.now in
    let apart = AreApart-filter (is_foreign notes) 0 (clear_notes notes) c.laws.ensures.apart in (
      subst (λ (l : List Span). IsNonDecreasingBy (λ (s : Span). s.start) l) (sym c.in_ok-spans.ensures) (starts_rise 0 _ apart),
      subst (λ (l : List Span). IsNonDecreasingBy (λ (s : Span). s.end) l) (sym c.in_ok-spans.ensures) (ends_rise 0 _ apart),
    )
