use Rattle.mxf_views.proofs.Common.{◌∙◌, ◌<◌, ◌≤◌, ℕ, List, Some, ap, arith, length, ltb-false, ltb-true, subst, sym, AllWithin}
use Rattle.std.specs.List.Sorted.{IsNonDecreasingBy}
use Rattle.mxf_views.proofs.KeyedLists.{not_found, same_at}
use Rattle.mxf_doubts.specs.declared.starts.stream_index.StreamIndex.{StreamIndex}
use Rattle.mxf_doubts.specs.UnitStarts.{first_of}
use Rattle.mxf_doubts.proofs.IndexLaws.{found_first, never_fall}
use Rattle.mxf_doubts.proofs.starts.stream_index.StreamIndexes.first_of.Goals as goal

abbrev sid : StreamIndex → ℕ
sid s = s.body_sid

abbrev NeverFall : List StreamIndex → Type 0
NeverFall xs = IsNonDecreasingBy sid xs

pub below-requires : goal.below-requires
below-requires c = subst NeverFall (sym c.deref-2.ensures.value) (never_fall c.self.inside.streams.items c.self.invariant)

pub returns-then-key : goal.returns-then-key
returns-then-key c =
    let key = c.from-key.result in
    let xs = c.deref.result.now in
    let at = c.below.result in
    let found = c.in_ok-stream.ensures.lookup in
    let below = subst (λ (l : List StreamIndex). AllWithin (λ (s : StreamIndex). s.body_sid < key) l 0 at)
    (c.deref-2.ensures.value ∙ sym c.deref.ensures.value) c.below.ensures.below in
    ap Some found.1
    ∙ sym (found_first key xs at _ below (ltb-true _ _ (sym found.0)) (ap sid (sym found.1) ∙ sym c.key.ensures ∙ c.if-key.true))
    ∙ ap (λ (n : ℕ). first_of n xs) c.from-key.ensures ∙ ap (first_of c.args.body_sid) (c.deref.ensures.value ∙ c.self.view_is)

pub returns-else-key : goal.returns-else-key
returns-else-key c =
    let key = c.from-key.result in
    let xs = c.deref.result.now in
    let at = c.below.result in
    let found = c.in_ok-stream.ensures.lookup in
    let same = c.deref-2.ensures.value ∙ sym c.deref.ensures.value in
    let below = subst (λ (l : List StreamIndex). AllWithin (λ (s : StreamIndex). s.body_sid < key) l 0 at) same c.below.ensures.below in
    let above = subst (λ (l : List StreamIndex). AllWithin (λ (s : StreamIndex). key ≤ s.body_sid) l at (length l)) same
    c.below.ensures.above in
    let falls = subst NeverFall (sym c.deref.ensures.value) (never_fall c.self.inside.streams.items c.self.invariant) in
    sym (not_found sid key xs at falls below
    (λ d l a e. c.if-key.false (c.key.ensures ∙ ap sid (found.1 ∙ same_at xs at _ d l) ∙ e)) above)
    ∙ ap (λ (n : ℕ). first_of n xs) c.from-key.ensures ∙ ap (first_of c.args.body_sid) (c.deref.ensures.value ∙ c.self.view_is)

pub returns-in_err-stream : goal.returns-in_err-stream
returns-in_err-stream c =
    let key = c.from-key.result in
    let xs = c.deref.result.now in
    let at = c.below.result in
    let same = c.deref-2.ensures.value ∙ sym c.deref.ensures.value in
    let below = subst (λ (l : List StreamIndex). AllWithin (λ (s : StreamIndex). s.body_sid < key) l 0 at) same c.below.ensures.below in
    let above = subst (λ (l : List StreamIndex). AllWithin (λ (s : StreamIndex). key ≤ s.body_sid) l at (length l)) same
    c.below.ensures.above in
    let falls = subst NeverFall (sym c.deref.ensures.value) (never_fall c.self.inside.streams.items c.self.invariant) in
    let none : length xs ≤ at = ltb-false _ _ (sym c.in_err-stream.ensures.lookup.0) in
    c.from_residual.ensures
    ∙ sym (not_found sid key xs at falls below (λ d l a e. omega (arith, l, none)) above)
    ∙ ap (λ (n : ℕ). first_of n xs) c.from-key.ensures ∙ ap (first_of c.args.body_sid) (c.deref.ensures.value ∙ c.self.view_is)
