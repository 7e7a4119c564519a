use Rattle.std.proofs.Common.{◌≡◌, ◌-◌, List, None, Some, arith, ap, get_or, length, subst, sym, ◌∙◌}
use Rattle.std.specs.Prelude.{slice_get, slice_set}
use Rattle.std.proofs.lemmas.Option.{get_or_from_slice_get, slice_get_within}
use Rattle.mxf_hand.specs.Differing.{difference}
use Rattle.mxf_hand.specs.declared.given.differing.Difference.{Difference}
use Rattle.mxf_hand.proofs.DifferingLaws.{with_near_behind, with_near_first, with_near_grown}
use Rattle.mxf_hand.proofs.given.differing.add_near.Goals as goal
use Rattle.mxf_hand.proofs.given.differing.add_near.Goals.{in_default-via-in-Some+else-is_near}
use Rattle.mxf_hand.proofs.given.differing.add_near.Goals.{in_default-via-in_default}

pub returns-in-Some-clause-added : goal.returns-in-Some-clause-added
returns-in-Some-clause-added c =
    let ds = c.args.noted.now.items in
    let last = c.in-Some.last.now in
    let at = subst (λ (l : List Difference). slice_get l (length l - 1)
    ≡ Some last) c.deref.ensures.value (sym c.in-Some.ensures.value) in
    let within = slice_get_within ds (length ds - 1) last at in
    let count = c.len-count.ensures in
    let place : c.len-count.result - 1 ≡ length ds - 1 = omega (arith, count) in
    let had = c.index_mut.result.now in
    let same = c.index_mut.ensures.value ∙ ap (λ k. get_or ds k had) place
    ∙ get_or_from_slice_get ds (length ds - 1) last had at in
    (λ i. slice_set ds (place i) (difference (same i).first (c.max.ensures i)))
    ∙ with_near_grown (length ds - 1) last c.args.next ds (omega (arith, within))
    (get_or_from_slice_get ds (length ds - 1) last last at) (sym c.is_near.ensures ∙ c.if-is_near.true)

pub returns-in_ok-push-in_default-clause-added : goal.returns-in_ok-push-in_default-clause-added
returns-in_ok-push-in_default-clause-added c =
    let ds = c.args.noted.now.items in
    c.in_ok-push-in_default.ensures.items ∙ elim c.in_default.branch [
      | in_default-via-in-Some+else-is_near w ↦
          let last = w.in-Some.last.now in
          let at = subst (λ (l : List Difference). slice_get l (length l - 1)
          ≡ Some last) c.deref.ensures.value (sym w.in-Some.ensures.value) in
          let within = slice_get_within ds (length ds - 1) last at in
          with_near_behind (length ds - 1) last c.args.next ds (omega (arith, within))
          (get_or_from_slice_get ds (length ds - 1) last last at) (sym w.is_near.ensures ∙ w.if-is_near.false)
      | in_default-via-in_default w ↦ with_near_first ds c.args.next (subst (λ (l : List Difference). None
          ≡ slice_get l (length l - 1)) c.deref.ensures.value w.in_default.ensures.value)
    ]
