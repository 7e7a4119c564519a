-- How far the file reaches, as the function and as the relation.
use Rattle.mxf_views.proofs.Common.{◌≡◌, ◌↔◌, ◌∙◌, ◌<◌, ◌≤◌, ℕ, max, List, Some, None, refl, sym, ap, subst, inl, inr}
use Rattle.mxf_views.proofs.Common.{arith, unwrap_or, same_Some, NoteParts, end_of, In, IsCover, LiesIn}
use Rattle.mxf_places.specs.AtHand.{AtHandParts, IsEdge, IsTop, edge_of, runs_end}
use Rattle.mxf_places.specs.Held.{end_of_file, top_of}
use Rattle.mxf_places.proofs.AtHandLaws.{runs_end-bound}
use Rattle.mxf_places.proofs.EndLaws.{end_says}
use Rattle.mxf_places.proofs.HeldLaws.{top_of-bound}

module _ (at : AtHandParts) (notes : List NoteParts) (cover : IsCover at.given) where
  abbrev top : ℕ
  top = max (top_of notes) (runs_end at.given)

  tops_bound : (bound : ℕ) → top ≤ bound
      ↔ (((n : NoteParts) → In n notes → end_of n ≤ bound) × ((x : ℕ) → LiesIn at.given x → x < bound))
  tops_bound bound =
      let a = top_of-bound notes bound in
      let b = runs_end-bound 0 at.given cover.maximal bound in (
        λ l. (a.0 (omega (arith, l)), b.0 (omega (arith, l))),
        λ k. let l = a.1 k.0 in let m = b.1 k.1 in omega (arith, l, m),
      )

  top_is : IsTop at notes top
  top_is =
      let own = (tops_bound top).0 (omega arith) in
      record { ends = own.0; above = own.1; least = λ y f g. (tops_bound y).1 (f, g) }

  one_top : (y : ℕ) → IsTop at notes y → top ≡ y
  one_top y t =
      let l = (tops_bound y).1 (t.ends, t.above) in
      let own = (tops_bound top).0 (omega arith) in
      let m = t.least top own.0 own.1 in omega (arith, l, m)

  pub edge_says_at : (edge : ℕ) → (edge_of at notes ≡ edge) ↔ IsEdge at notes edge
  edge_says_at edge =
      elim (end_of_file notes) as (λ o. end_of_file notes ≡ o → (unwrap_or o top ≡ edge) ↔ IsEdge at notes edge) [
        | Some end ↦ λ e. (
          λ same. inl ((end_says notes edge).0 (e ∙ ap (λ (z : ℕ). Some z) same)),
          λ is. elim is [
            | inl k ↦ same_Some end edge (sym e ∙ (end_says notes edge).1 k)
            | inr k ↦ absurd (k.0 end ((end_says notes end).0 e))
          ],
        )
        | None ↦ λ e. (
          λ same. inr (
            λ end k. let f = (end_says notes end).1 k in absurd (cc (e, f)),
            subst (IsTop at notes) same top_is,
          ),
          λ is. elim is [
            | inl k ↦ (let f = (end_says notes edge).1 k in absurd (cc (e, f)))
            | inr k ↦ one_top edge k.1
          ],
        )
      ] refl

pub edge_says : (at : AtHandParts) (notes : List NoteParts) (edge : ℕ) → IsCover at.given
    → (edge_of at notes ≡ edge) ↔ IsEdge at notes edge
edge_says at notes edge cover = edge_says_at at notes cover edge
