use Rattle.mxf_views.proofs.Common.{◌∙◌, ◌+◌, ◌&&◌, ℕ, List, Some, true, ap, filter, filter_map, nat_le, nat_lt, subst, sym, SegmentAtParts}
use Rattle.std.specs.List.Sorted.{IsNonDecreasingBy}
use Rattle.std.specs.Option.{option_map_or}
use Rattle.mxf_units.specs.Repeated.{SayAll}
use Rattle.mxf_doubts.specs.declared.starts.index.OwnSegment.{OwnSegment}
use Rattle.mxf_doubts.specs.UnitStarts.{segment_there}
use Rattle.mxf_doubts.proofs.OwnLaws.{is_own, own_found, own_never_fall, say_all}
use Rattle.mxf_doubts.proofs.starts.index.Indexes.index.Goals as goal

pub between-own-requires : goal.between-own-requires
between-own-requires c =
    subst (λ (l : List OwnSegment). IsNonDecreasingBy (λ (s : OwnSegment). s.index_sid) l)
    (sym (c.deref.ensures.value ∙ c.self.invariant)) (own_never_fall c.self.inside.views.now)

pub invariant_of-result : goal.invariant_of-result
invariant_of-result c =
    let notes = c.self.inside.views.now in
    let sid = c.args.index_sid in
    let left = c.in_ok-segments.segments in
    let all = c.in_ok-found.ensures
    ∙ ap (filter_map (segment_there notes)) (c.between-own.ensures
    ∙ ap (λ (n : ℕ). filter (λ (x : OwnSegment). nat_le n x.index_sid && option_map_or (λ e. nat_lt x.index_sid e) (Some (n + 1)) true)
    c.deref.result.now) c.from-sid.ensures
    ∙ ap (λ (l : List OwnSegment). filter (is_own sid) l) (c.deref.ensures.value ∙ c.self.invariant)) in
    say_all _ _ left (own_found notes sid) (subst (λ (l : List SegmentAtParts). SayAll l left) all c.in_ok-segments.ensures)
