use Rattle.mxf_views.proofs.Common.{◌≡◌, ◌∙◌, ap, subst, sym, inl, refl, Some, max, unwrap_or, SegmentParts}
use Rattle.mxf_views.proofs.Common.{SegmentAtParts, segments_of}
use Rattle.mxf_sets.specs.declared.segment.numbers.SegmentNumbers.{SegmentNumbers}
use Rattle.mxf_units.specs.LastUnits.{GivesPlace, IsEndless, IsLastWith, NoneWith}
use Rattle.mxf_units.proofs.LastLaws.{HasPassed, all-passed, endless-more, last-more, none-more, other-passed}
use Rattle.mxf_units.proofs.last.last_unit.Goals as goal

pub returns-then-is_endless : goal.returns-then-is_endless
returns-then-is_endless c =
    let s = c.in-Some.segment in
    let same : c.segment.inside.segment ≡ s.segment = ap (λ (t : SegmentAtParts). t.segment) c.segment.view_is in
    let index : s.segment.numbers.index_sid ≡ c.args.index_sid =
    ap (λ (p : SegmentParts). p.numbers.index_sid) (sym same)
    ∙ ap (λ (n : SegmentNumbers). n.index_sid) (sym c.numbers.ensures.numbers) ∙ c.if-numbers-index_sid.true in
    inl (endless-more (segments_of c.args.views.now) c.loop-segment.segment-iterator c.next.new.self s c.args.index_sid
    c.loop-segment.last c.in-Some.ensures.steps c.loop-segment.invariant c.args.views.now refl index
    (subst IsEndless same (c.if-is_endless.ensures.0 refl)))

pub loop-segment-preserved-in-Some-last_of : goal.loop-segment-preserved-in-Some-last_of
loop-segment-preserved-in-Some-last_of c =
    let s = c.in-Some.segment in
    let same : c.segment.inside.segment ≡ s.segment = ap (λ (t : SegmentAtParts). t.segment) c.segment.view_is in
    let index : s.segment.numbers.index_sid ≡ c.args.index_sid =
    ap (λ (p : SegmentParts). p.numbers.index_sid) (sym same)
    ∙ ap (λ (n : SegmentNumbers). n.index_sid) (sym c.numbers.ensures.numbers) ∙ c.if-numbers-index_sid.true in
    let unit = c.in-Some-last_of.unit in
    let greater : c.max.result ≡ max unit (unwrap_or c.loop-segment.last 0) =
    c.max.ensures ∙ ap (max unit) c.unwrap_or.ensures in
    subst (λ n. HasPassed (segments_of c.args.views.now) c.next.new.self c.args.index_sid (Some n)) (sym greater)
    (last-more (segments_of c.args.views.now) c.loop-segment.segment-iterator c.next.new.self s c.args.index_sid
    c.loop-segment.last c.in-Some.ensures.steps c.loop-segment.invariant unit index
    (λ h. let e = c.if-is_endless.ensures.1 (subst IsEndless (sym same) h) in absurd cc)
    (subst (λ (p : SegmentParts). IsLastWith (GivesPlace p) unit) same c.in-Some-last_of.ensures))

pub loop-segment-preserved-in_default : goal.loop-segment-preserved-in_default
loop-segment-preserved-in_default c =
    let s = c.in-Some.segment in
    let same : c.segment.inside.segment ≡ s.segment = ap (λ (t : SegmentAtParts). t.segment) c.segment.view_is in
    none-more (segments_of c.args.views.now) c.loop-segment.segment-iterator c.next.new.self s c.args.index_sid
    c.loop-segment.last c.in-Some.ensures.steps c.loop-segment.invariant
    (λ h. let e = c.if-is_endless.ensures.1 (subst IsEndless (sym same) h) in absurd cc)
    (subst (λ (p : SegmentParts). NoneWith (GivesPlace p)) same c.in_default.ensures)

pub loop-segment-preserved : goal.loop-segment-preserved
loop-segment-preserved c =
    let s = c.in-Some.segment in
    let same : c.segment.inside.segment ≡ s.segment = ap (λ (t : SegmentAtParts). t.segment) c.segment.view_is in
    other-passed (segments_of c.args.views.now) c.loop-segment.segment-iterator c.next.new.self s c.args.index_sid
    c.loop-segment.last c.in-Some.ensures.steps c.loop-segment.invariant
    (λ e. c.if-numbers-index_sid.false (ap (λ (n : SegmentNumbers). n.index_sid) c.numbers.ensures.numbers
    ∙ ap (λ (p : SegmentParts). p.numbers.index_sid) same ∙ e))

pub returns : goal.returns
returns c = all-passed c.args.views.now c.args.index_sid _ c.loop-segment.last c.in-None.ensures.steps.0
    c.loop-segment.invariant
