use Rattle.mxf_views.proofs.Common.{◌≡◌, ◌∙◌, ◌+◌, ◌≤◌, ◌<◌, List, length, ltb-false, nat_le, subst, sym, get_or}
use Rattle.std.specs.List.Sorted.{IsNonDecreasingBy}
use Rattle.mxf_doubts.specs.declared.spans.Span.{Span}
use Rattle.mxf_doubts.proofs.SpanLaws.{IsPlace, first_behind, none_behind}
use Rattle.mxf_doubts.proofs.spans.Spans.has_one_from.Goals as goal

pub returns-in-None : goal.returns-in-None
returns-in-None c =
    let place = subst (λ (l : List Span). IsPlace c.args.start l c.below.result) (c.deref-2.ensures.value ∙ c.self.view_is)
    record { below = c.below.ensures.below; above = c.below.ensures.above } in
    let behind = subst (λ (l : List Span). length l ≤ c.below.result) (c.deref.ensures.value ∙ c.self.view_is)
    (ltb-false _ _ (sym c.in-None.ensures.lookup.0)) in
    none_behind c.args.start c.args.bytes c.args.self.now c.below.result place behind

pub returns-in-Some : goal.returns-in-Some
returns-in-Some c =
    let same = c.deref.ensures.value ∙ c.self.view_is in
    let place = subst (λ (l : List Span). IsPlace c.args.start l c.below.result) (c.deref-2.ensures.value ∙ c.self.view_is)
    record { below = c.below.ensures.below; above = c.below.ensures.above } in
    let found = c.in-Some.ensures.lookup.3 in
    let there = subst (λ (l : List Span). c.below.result < length l) same found.0 in
    let is = subst (λ (l : List Span). (d : Span) → c.in-Some.packet.now ≡ get_or l c.below.result d) same found.1 in
    (λ i. nat_le (c.from.ensures i) (c.from-in-Some.ensures i + c.from-in-Some-2.ensures i))
    ∙ first_behind c.args.start c.args.bytes c.args.self.now c.below.result c.in-Some.packet.now place
    (subst (λ (l : List Span). IsNonDecreasingBy (λ (s : Span). s.end) l) c.self.view_is c.self.invariant.1) there is
