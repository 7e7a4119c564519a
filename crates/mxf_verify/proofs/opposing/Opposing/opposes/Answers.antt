use Rattle.mxf_views.proofs.Common.{◌≡◌, ◌∙◌, ◌↔◌, ◌-◌, ap, sym, subst, IsTrue, nat_lt, nat_le, count_by}
use Rattle.mxf_views.proofs.Common.{IsNonDecreasing, covered_end, head_note, has_note, is_same_note}
use Rattle.mxf_verify.specs.Opposing.{IsOpposed}
use Rattle.mxf_verify.proofs.TouchCounts.{begun-count, ended-begun, ended-count, held-byte, opposed-by_counts}
use Rattle.mxf_verify.proofs.TouchCounts.{starts-rise}
use Rattle.mxf_verify.proofs.opposing.Opposing.opposes.Goals as goal

pub below-begun-requires : goal.below-begun-requires
below-begun-requires c =
    let rise : IsNonDecreasing c.self.inside.starts.items = starts-rise _ _ _ c.self.invariant in
    subst (λ xs. IsNonDecreasing xs) (sym c.deref.ensures.value) rise

begun : (c : goal.Joined-to_head)
    → c.below-begun.result ≡ count_by (λ m. nat_lt m.offset (covered_end c.args.note.now)) c.self.inside.catalogue.now
begun c =
    let b = c.below-begun.ensures in
    begun-count _ _ _ _ c.covered_end.result c.below-begun.result c.self.invariant c.deref.ensures.value b.bound b.below
    b.above ∙ ap (λ e. count_by (λ m. nat_lt m.offset e) c.self.inside.catalogue.now) c.covered_end.ensures.covered

ended : (c : goal.Joined-to_head)
    → c.up_to-ended.result ≡ count_by (λ m. nat_le (covered_end m) c.args.note.now.offset) c.self.inside.catalogue.now
ended c =
    let u = c.up_to-ended.ensures in
    ended-count _ _ _ _ c.offset.result c.up_to-ended.result c.self.invariant c.deref-2.ensures.value u.bound u.below
    u.above ∙ ap (λ o. count_by (λ m. nat_le (covered_end m) o) c.self.inside.catalogue.now) c.offset.ensures.offset

pub overflow_sub-result : goal.overflow_sub-result
overflow_sub-result c =
    ended-begun c.args.note.now c.self.inside.catalogue.now c.below-begun.result c.up_to-ended.result (begun c)
    (ended c)

pub returns : goal.returns
returns c =
    let notes = c.self.inside.catalogue.now in
    let lacked : has_note notes c.args.note.now → ⊥ = λ h. let t = c.has.ensures.1 h in cc (t, c.if-has.false) in
    let heads : c.from-heads.result ≡ count_by (λ m. is_same_note m (head_note c.args.note.now)) notes =
    c.from-heads.ensures
    ∙ held-byte c.holds-2.result _ _ notes c.self.invariant.catalogue.content c.to_head.ensures c.holds-2.ensures in
    let counts = opposed-by_counts c.args.note.now notes c.below-begun.result c.up_to-ended.result c.from-heads.result
    c.offset.ensures.note lacked (begun c) (ended c) heads in
    subst (λ all. IsTrue (nat_lt c.from-heads.result (c.below-begun.result - c.up_to-ended.result))
    ↔ IsOpposed c.args.note.now all) c.self.view_is counts
