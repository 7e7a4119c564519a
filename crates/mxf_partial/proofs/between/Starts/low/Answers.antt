use Rattle.mxf_views.proofs.Common.{◌↔◌, ◌∙◌, ◌<◌, ◌≤◌, ℕ, List, ap, arith, get_or, length, map, subst, sym, AllWithin}
use Rattle.mxf_views.proofs.Common.{length-map, In}
use Rattle.mxf_partial.specs.declared.between.SegmentStart.{SegmentStart}
use Rattle.mxf_partial.proofs.StartLaws.{length-greatest, low_says, first_unit}
use Rattle.mxf_partial.proofs.between.Starts.low.Goals as goal

pub index-requires : goal.index-requires
index-requires c =
    let starts = c.self.inside.starts.items in
    let whole = ap length c.self.invariant.1 in
    let bound : c.up_to.result ≤ length c.deref.result.now = c.up_to.ensures.bound in
    let lent = ap length c.deref.ensures.value in
    omega (arith, whole, bound, lent, length-greatest 0 (map first_unit starts), length-map starts first_unit)

pub returns : goal.returns
returns c u =
    let starts = c.self.inside.starts.items in
    let x = c.args.place in
    let k = c.up_to.result in
    let r = c.index.result.now in
    let lent = c.deref.ensures.value in
    let at = c.index.ensures ∙ ap (λ (l : List ℕ). get_or l k r) c.self.invariant.1 in
    let says = low_says starts x k r u (subst (λ (l : List SegmentStart). k ≤ length l) lent c.up_to.ensures.bound)
    (subst (λ (l : List SegmentStart). AllWithin (λ s. s.offset ≤ x) l 0 k) lent c.up_to.ensures.below)
    (subst (λ (l : List SegmentStart). AllWithin (λ s. x < s.offset) l k (length l)) lent c.up_to.ensures.above) in
    subst (λ (l : List SegmentStart). (r ≤ u) ↔ ((s : SegmentStart) → In s l → s.offset ≤ x → s.unit ≤ u))
    c.self.view_is
    (subst (λ (v : ℕ). (v ≤ u) ↔ ((s : SegmentStart) → In s starts → s.offset ≤ x → s.unit ≤ u)) (sym at) says)
