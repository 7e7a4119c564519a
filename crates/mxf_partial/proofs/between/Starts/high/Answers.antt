use Rattle.mxf_views.proofs.Common.{◌≡◌, ◌↔◌, ◌∙◌, ◌-◌, ◌<◌, ◌≤◌, ℕ, List, ap, arith, get_or, length, map, subst, sym}
use Rattle.mxf_views.proofs.Common.{AllWithin, length-map, length-reverse, In}
use Rattle.std.specs.Prelude.{reverse}
use Rattle.mxf_partial.specs.SegmentStarts.{least_so_far}
use Rattle.mxf_partial.specs.declared.between.SegmentStart.{SegmentStart}
use Rattle.mxf_partial.proofs.StartLaws.{length-least, high_says, first_unit}
use Rattle.mxf_partial.proofs.between.Starts.high.Goals as goal

pub index-requires : goal.index-requires
index-requires c =
    let us = map first_unit c.self.inside.starts.items in
    let whole = ap length c.self.invariant.2 in
    let bound : c.below.result ≤ length c.deref.result.now = c.below.ensures.bound in
    let lent = ap length c.deref.ensures.value in
    omega (
      arith,
      whole,
      bound,
      lent,
      c.len.ensures,
      length-least 18446744073709551616 (reverse us),
      length-reverse us,
      length-map c.self.inside.starts.items first_unit,
    )

pub returns : goal.returns
returns c u small =
    let starts = c.self.inside.starts.items in
    let x = c.args.place in
    let k = c.below.result in
    let r = c.index.result.now in
    let lent = c.deref.ensures.value in
    let count : c.len.result ≡ length starts = c.len.ensures ∙ sym c.deref.ensures.len ∙ ap length lent in
    let at = c.index.ensures ∙ ap (λ (l : List ℕ). get_or l (c.len.result - k) r) c.self.invariant.2
    ∙ ap (λ (n : ℕ). get_or (least_so_far 18446744073709551616 (reverse (map first_unit starts))) (n - k) r) count in
    let says = high_says starts x k 18446744073709551616 r u
    (subst (λ (l : List SegmentStart). k ≤ length l) lent c.below.ensures.bound) small
    (subst (λ (l : List SegmentStart). AllWithin (λ s. s.offset < x) l 0 k) lent c.below.ensures.below)
    (subst (λ (l : List SegmentStart). AllWithin (λ s. x ≤ s.offset) l k (length l)) lent c.below.ensures.above) in
    subst (λ (l : List SegmentStart). (u < r) ↔ ((s : SegmentStart) → In s l → x ≤ s.offset → u < s.unit))
    c.self.view_is
    (subst (λ (v : ℕ). (u < v) ↔ ((s : SegmentStart) → In s starts → x ≤ s.offset → u < s.unit)) (sym at) says)
