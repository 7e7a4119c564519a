use Rattle.mxf_views.proofs.Common.{◌≡◌, ◌∙◌, ◌==◌, ℕ, Bool, List, ap, filter, map, refl, rules, subst, sym}
use Rattle.mxf_views.proofs.Common.{IsNonDecreasingBy, YieldsList-from_map, YieldsList-from_slice, items_from_collect}
use Rattle.mxf_views.proofs.Common.{YieldsList-at, YieldsList-from_filter, map-map, NoteParts, never_falls}
use Rattle.mxf_views.proofs.Common.{rises-filter, rises-map, SegmentAtParts, segments_of, without_entries}
use Rattle.std.specs.Result.{IfOk}
use Rattle.mxf_views.proofs.KeyedLists.{rise_by}
use Rattle.mxf_views.proofs.NumbersLaws.{filter_mapped}
use Rattle.mxf_units.specs.Streams.{segments_for}
use Rattle.mxf_partial.specs.SegmentStarts.{start_of, starts_for}
use Rattle.mxf_partial.specs.declared.between.SegmentStart.{SegmentStart}
use Rattle.mxf_partial.proofs.between.starts_for.Goals as goal

abbrev has_index : ℕ → SegmentAtParts → Bool
has_index index_sid s = s.segment.numbers.index_sid == index_sid

given : (c : goal.In_ok-collect) → c.in_ok-collect.field-0.items
    ≡ map start_of (filter (has_index c.index_sid-index_sid.result) c.segments_in_numbers.result.now)
given c =
    let lent : List SegmentAtParts = c.segments_in_numbers.result.now in
    let kept = has_index c.index_sid-index_sid.result in
    let h = items_from_collect _ c.collect.ensures.ran (YieldsList-from_map _ start_of
    (YieldsList-at c.map-starts.ensures.source (YieldsList-from_filter _ kept (YieldsList-from_slice lent cc)
    c.filter.ensures.closure (λ x r q k. search rules)))
    c.map-starts.ensures.closure (λ x r q k. search rules)) in
    subst (λ r. IfOk r (λ v. v.items ≡ map start_of (filter kept lent))) c.in_ok-collect.was h

pub returns-clause-starts : goal.returns-clause-starts
unfolding starts_for
returns-clause-starts c =
    let kept = has_index c.index_sid-index_sid.result in
    let units = c.args.units.now in
    let ss = segments_of c.views.result.now in
    given c ∙ ap (λ (l : List SegmentAtParts). map start_of (filter kept l)) c.segments_in_numbers.ensures.segments
    ∙ ap (map start_of) (filter_mapped kept without_entries ss) ∙ map-map start_of without_entries (filter kept ss)
    ∙ ap (λ (n : ℕ). map start_of (filter (has_index n) ss)) c.index_sid-index_sid.ensures
    ∙ ap (λ (notes : List NoteParts). map start_of (segments_for notes units.index_sid))
    (c.views.ensures ∙ c.holdings.ensures)

pub returns-clause-rising : goal.returns-clause-rising
returns-clause-rising c =
    let lent : List SegmentAtParts = c.segments_in_numbers.result.now in
    let kept = has_index c.index_sid-index_sid.result in
    let key = λ (s : SegmentAtParts). s.offset in
    let key_of = λ (s : SegmentStart). s.offset in
    subst (IsNonDecreasingBy key_of) (sym (given c)) (never_falls key_of (map start_of (filter kept lent))
    (rises-map key start_of key_of (filter kept lent) (λ s h. refl)
    (rises-filter key kept lent ((rise_by key lent).0 c.segments_in_numbers.ensures.rising))))
