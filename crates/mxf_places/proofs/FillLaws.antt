-- Going over fills, by notes, by the list of fills, and by a table.
use Rattle.mxf_views.proofs.Common.{◌≡◌, ◌∙◌, ◌==◌, ℕ, true, false, List, [], ◌∷◌, refl, ap, cond, eqb-true, Some}
use Rattle.mxf_views.proofs.Common.{unwrap_or, nat_cmp, BTreeMap, get, is_at, NoteParts, kind_of, end_of, at_equal}
use Rattle.mxf_views.proofs.Common.{at_other, is_fill}
use Rattle.std.proofs.Math.Bool.{and-true, and-false}
use Rattle.mxf_places.specs.Claims.{over_among}
use Rattle.mxf_places.specs.Fills.{fill_at, fills_among, over_in, over_list}
use Rattle.mxf_places.specs.declared.fills.Fill.{Fill}

pub over_among-list : (notes : List NoteParts) (x : ℕ) → over_among notes x ≡ over_list (fills_among notes) x
unfolding fill_at
over_among-list [] x = refl
over_among-list (n ∷ notes) x = elim (is_fill (kind_of n.key)) as (λ b. is_fill (kind_of n.key) ≡ b
    → over_among (n ∷ notes) x ≡ over_list (fills_among (n ∷ notes)) x) [
      | true ↦ λ e. rw e (ap (λ b. over_among notes (cond b (end_of n) x)) (and-true (n.offset == x))
          ∙ over_among-list notes (cond (n.offset == x) (end_of n) x))
      | false ↦ λ e. rw e (ap (λ b. over_among notes (cond b (end_of n) x)) (and-false (n.offset == x))
          ∙ over_among-list notes x)
    ] refl

-- A table with one more fill goes over it first.
pub over_in-insert : (old new : BTreeMap ℕ ℕ) (fill : Fill) (fills : List Fill)
    → ((x : ℕ) → over_in old x ≡ over_list fills x)
    → ((x : ℕ) → get nat_cmp new x ≡ cond (is_at (nat_cmp fill.start) x) (Some (over_in old fill.end)) (get nat_cmp
    old x)) → (x : ℕ) → over_in new x ≡ over_list (fill ∷ fills) x
over_in-insert old new fill fills goes updates x = ap (λ o. unwrap_or o x) (updates x)
    ∙ elim (fill.start == x) as (λ b. (fill.start == x) ≡ b
    → unwrap_or (cond (is_at (nat_cmp fill.start) x) (Some (over_in old fill.end)) (get nat_cmp old x)) x
    ≡ over_list fills (cond b fill.end x)) [
      | true ↦ λ e. ap (λ b. unwrap_or (cond b (Some (over_in old fill.end)) (get nat_cmp old x)) x)
          (at_equal fill.start x (eqb-true fill.start x e)) ∙ goes fill.end
      | false ↦ λ e. ap (λ b. unwrap_or (cond b (Some (over_in old fill.end)) (get nat_cmp old x)) x)
          (at_other fill.start x e) ∙ goes x
    ] refl
