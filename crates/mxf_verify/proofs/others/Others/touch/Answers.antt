use Rattle.mxf_views.proofs.Common.{◌≡◌, ◌∙◌, ◌-◌, ap, arith, sym, subst, count_by, nat_le, nat_lt, IsNonDecreasing}
use Rattle.mxf_views.proofs.Common.{is_le, is_lt, covered_end, head_note, note_cmp, IsContent, is_same_note}
use Rattle.mxf_verify.specs.Others.{is_touched}
use Rattle.mxf_verify.specs.Telling.{notes_at}
use Rattle.mxf_verify.proofs.OtherLaws.{packets-count, touched-by_counts}
use Rattle.mxf_verify.proofs.TouchCounts.{begun-count, ended-begun, ended-count, starts-rise}
use Rattle.mxf_verify.proofs.others.Others.touch.Goals as goal

pub below-begun-requires : goal.below-begun-requires
below-begun-requires c =
    let rise : IsNonDecreasing c.self.inside.starts.items = starts-rise _ _ _ c.self.invariant in
    subst (λ xs. IsNonDecreasing xs) (sym c.deref.ensures.value) rise

pub heads_up_to-requires : goal.heads_up_to-requires
heads_up_to-requires c =
    subst (λ rs. IsContent (notes_at rs)) (sym c.deref-3.ensures.value) c.self.invariant.catalogue.content

pub heads_below-requires : goal.heads_below-requires
heads_below-requires c =
    subst (λ rs. IsContent (notes_at rs)) (sym c.deref-4.ensures.value) c.self.invariant.catalogue.content

begun : (c : goal.After-heads_below)
    → c.below-begun.result ≡ count_by (λ m. nat_lt m.offset (covered_end c.args.note.now))
    (notes_at c.self.inside.notes.items)
begun c =
    let b = c.below-begun.ensures in
    begun-count _ _ _ _ c.covered_end.result c.below-begun.result c.self.invariant c.deref.ensures.value b.bound b.below
    b.above
    ∙ ap (λ e. count_by (λ m. nat_lt m.offset e) (notes_at c.self.inside.notes.items)) c.covered_end.ensures.covered

ended : (c : goal.After-heads_below)
    → c.up_to-ended.result ≡ count_by (λ m. nat_le (covered_end m) c.args.note.now.offset)
    (notes_at c.self.inside.notes.items)
ended c =
    let u = c.up_to-ended.ensures in
    ended-count _ _ _ _ c.offset.result c.up_to-ended.result c.self.invariant c.deref-2.ensures.value u.bound u.below
    u.above
    ∙ ap (λ o. count_by (λ m. nat_le (covered_end m) o) (notes_at c.self.inside.notes.items)) c.offset.ensures.offset

packets_up_to : (c : goal.After-heads_below) → c.heads_up_to.result
    ≡ count_by (λ m. is_le (note_cmp (head_note m) c.args.note.now)) (notes_at c.self.inside.notes.items)
packets_up_to c = c.heads_up_to.ensures
    ∙ ap (λ rs. count_by (λ m. is_le (note_cmp (head_note m) c.args.note.now)) (notes_at rs)) c.deref-3.ensures.value

packets_below : (c : goal.After-heads_below) → c.heads_below.result
    ≡ count_by (λ m. is_lt (note_cmp (head_note m) c.args.note.now)) (notes_at c.self.inside.notes.items)
packets_below c = c.heads_below.ensures
    ∙ ap (λ rs. count_by (λ m. is_lt (note_cmp (head_note m) c.args.note.now)) (notes_at rs)) c.deref-4.ensures.value

pub overflow_sub-packets : goal.overflow_sub-packets
overflow_sub-packets c =
    let all = packets-count c.args.note.now (notes_at c.self.inside.notes.items) in
    omega (arith, all, packets_up_to c, packets_below c)

pub overflow_sub-result : goal.overflow_sub-result
overflow_sub-result c =
    ended-begun c.args.note.now (notes_at c.self.inside.notes.items) c.below-begun.result c.up_to-ended.result (begun c)
    (ended c)

pub returns : goal.returns
returns c =
    let n = c.args.note.now in
    let notes = notes_at c.self.inside.notes.items in
    let all = packets-count n notes in
    let packets : c.heads_up_to.result - c.heads_below.result ≡ count_by (λ m. is_same_note (head_note m) n) notes =
    omega (arith, all, packets_up_to c, packets_below c) in
    touched-by_counts n notes c.below-begun.result c.up_to-ended.result (c.heads_up_to.result - c.heads_below.result)
    (begun c) (ended c) packets ∙ ap (is_touched n) c.self.view_is
