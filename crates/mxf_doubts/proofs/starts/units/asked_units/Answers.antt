use Rattle.mxf_views.proofs.Common.{◌∙◌, ◌<◌, ◌++◌, ℕ, List, [], IfSome, ap, flat_map, segments_of, subst, sym, union}
use Rattle.std.specs.List.Sorted.{IsNonDecreasingBy}
use Rattle.mxf_doubts.specs.declared.starts.stream_index.StreamIndex.{StreamIndex}
use Rattle.mxf_doubts.specs.UnitStarts.{borders_of, first_of, packet_offsets, unit_cmp, units_of_part}
use Rattle.mxf_doubts.proofs.IndexLaws.{one_unit, packets_rise, some_size}
use Rattle.mxf_doubts.proofs.starts.units.asked_units.Goals as goal

pub sort_once-requires : goal.sort_once-requires
sort_once-requires c = one_unit

pub add_units_of_parts-requires-clause-sized : goal.add_units_of_parts-requires-clause-sized
add_units_of_parts-requires-clause-sized c b =
    subst (λ (l : List StreamIndex). IfSome (first_of b l) (λ s. 0 < s.unit_bytes)) (sym c.requires) (some_size c.args.views.now b)

pub add_units_of_parts-requires-clause-rising : goal.add_units_of_parts-requires-clause-rising
add_units_of_parts-requires-clause-rising c =
    subst (λ (l : List ℕ). IsNonDecreasingBy (λ (x : ℕ). x) l)
    (sym (c.deref.ensures.value ∙ c.in_ok-offsets.ensures ∙ ap packet_offsets (c.catalogue-2.ensures ∙ sym c.catalogue.ensures)))
    (packets_rise 0 _ c.laws.ensures.apart)

pub returns : goal.returns
returns c =
    let notes = c.args.views.now in
    let before = c.in_ok-add_all_borders.ensures
    ∙ ap (λ (l : List (ℕ × ℕ)). l ++ flat_map borders_of (segments_of notes)) c.in_ok-units.ensures in
    let offsets = c.deref.ensures.value ∙ c.in_ok-offsets.ensures ∙ ap packet_offsets c.catalogue-2.ensures in
    let sized = c.requires in
    c.sort_once.ensures.members
    ∙ ap (union unit_cmp []) (c.in_ok-add_units_of_parts.ensures
    ∙ (λ i. before i ++ flat_map (units_of_part (offsets i) (sized i)) c.args.parts.now))
