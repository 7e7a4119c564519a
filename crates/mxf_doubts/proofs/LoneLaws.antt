-- A note whose key no other note has.
use Rattle.mxf_klv.proofs.Common.{◌≡◌, ◌↔◌, ◌∙◌, ℕ, List, [], ◌∷◌, true, IsTrue, sym, ap, refl, subst, inl, inr}
use Rattle.mxf_klv.proofs.Common.{arith, eq-eqb, eqb-true, false_from_ne_true, count_by, NoteParts, note_cmp, In, IsRising, less_in}
use Rattle.mxf_klv.proofs.Counts.{count-one, count-none, count_by-cons, tally}
use Rattle.mxf_klv.proofs.Common.{bytes_eq-Decides, note_total}
use Rattle.std.proofs.lemmas.Cmp.{tied_itself}
use Rattle.mxf_catalogue.specs.Content.{IsContent}
use Rattle.mxf_doubts.specs.Strange.{IsLone, bare_key, has_bare_key, is_lone}

has_own : (n : NoteParts) → has_bare_key n.key n ≡ true
has_own n = (bytes_eq-Decides (bare_key n.key) (bare_key n.key)).1 refl

same_keys : (key : List ℕ) (m : NoteParts) → has_bare_key key m ≡ true → bare_key m.key ≡ bare_key key
same_keys key m t = (bytes_eq-Decides (bare_key m.key) (bare_key key)).0 t

-- Nothing stands twice in what rises.
not_below : (n : NoteParts) (notes : List NoteParts) → IsRising note_cmp (n ∷ notes) → In n notes → ⊥
not_below n notes r i = let l = less_in note_total n n notes r.0 i in let e = tied_itself note_total n in cc (l, e)

only_one : (n : NoteParts) (notes : List NoteParts) → IsContent notes → In n notes → IsLone notes n
    → count_by (has_bare_key n.key) notes ≡ 1
only_one n [] r i f = absurd i
only_one n (m ∷ notes) r i f =
    let c = count_by-cons (has_bare_key n.key) m notes in
    elim i [
      | inl same ↦
          let own : tally (has_bare_key n.key m) ≡ 1 = ap tally (ap (has_bare_key n.key) (sym same) ∙ has_own n) in
          let none = count-none (has_bare_key n.key) notes (λ x j t.
          let e = f x (inr j) (same_keys n.key x t) in
          not_below m notes r (subst (λ (y : NoteParts). In y notes) (e ∙ same) j)) in
          omega (arith, c, own, none)
      | inr j ↦
          let other : tally (has_bare_key n.key m) ≡ 0 = ap tally (false_from_ne_true (has_bare_key n.key m) (λ t.
          let e = f m (inl refl) (same_keys n.key m t) in
          not_below m notes r (subst (λ (y : NoteParts). In y notes) (sym e) j))) in
          let ih = only_one n notes r.1 j (λ x k. f x (inr k)) in
          omega (arith, c, other, ih)
    ]

pub lone : (notes : List NoteParts) (n : NoteParts) → IsContent notes → In n notes
    → IsTrue (is_lone notes n) ↔ IsLone notes n
lone notes n r i = (
  λ t m j e.
      let one = count-one (has_bare_key n.key) notes (eqb-true _ 1 t) in
      one.3 m j ((bytes_eq-Decides (bare_key m.key) (bare_key n.key)).1 e) ∙ sym (one.3 n i (has_own n)),
  λ f. eq-eqb _ 1 (only_one n notes r i f),
)
