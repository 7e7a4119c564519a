use Rattle.mxf_views.proofs.Common.{◌≡◌, ◌∙◌, ◌↔◌, Ok, Err, Result, IfOk, List, ℕ, inl, inr, subst, sym, union_of_runs}
use Rattle.mxf_views.proofs.Common.{union_of_runs-IsUnion, LiesIn, NoteParts}
use Rattle.mxf_catalogue.specs.declared.cover.Cover.{Cover}
use Rattle.mxf_catalogue.specs.declared.run.Run.{Run}
use Rattle.mxf_places.specs.AtHand.{KnownParts}
use Rattle.mxf_places.specs.Held.{IsHeld}
use Rattle.mxf_units.specs.Units.{AreKnown}
use Rattle.mxf_units.proofs.units.known_of.Goals as goal

joined : {E : Type 0} (known : KnownParts) (held hand : List Run) (result : Result Cover E)
    → ((x : ℕ) → LiesIn held x ↔ IsHeld known.notes x) → hand ≡ known.at.hand
    → IfOk result (λ c. c ≡ union_of_runs held hand) → IfOk result (λ c. AreKnown known c)
joined known held hand (Ok c) are same is = λ x.
    let both = union_of_runs-IsUnion held hand x in (
      λ l. elim (both.0 (subst (λ (runs : List Run). LiesIn runs x) is l)) [
        | inl h ↦ inl ((are x).0 h)
        | inr h ↦ inr (subst (λ (runs : List Run). LiesIn runs x) same h)
      ],
      λ k. subst (λ (runs : List Run). LiesIn runs x) (sym is) (both.1 (elim k [
        | inl h ↦ inl ((are x).1 h)
        | inr h ↦ inr (subst (λ (runs : List Run). LiesIn runs x) (sym same) h)
      ])),
    )
joined known held hand (Err e) are same is = tt

pub returns : goal.returns
returns c =
    joined (record { notes = c.args.holdings.now; at = c.args.at_hand.now }) c.spans-held.result.now c.hand.result.now
    c.join.result (subst (λ (notes : List NoteParts). (x : ℕ) → LiesIn c.spans-held.result.now x ↔ IsHeld notes x)
    (c.catalogue.ensures ∙ c.views.ensures) c.spans-held.ensures.spans) c.hand.ensures.hand c.join.ensures
