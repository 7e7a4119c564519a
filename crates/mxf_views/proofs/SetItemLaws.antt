-- The items of header metadata sets.
use Rattle.mxf_views.proofs.Common.{◌≡◌, ℕ, ◌∙◌, Bool, true, false, List, Option, Some, None, length, refl, sym, ap}
use Rattle.mxf_views.proofs.Common.{subst, eq-eqb, ◌↔◌, ◌==◌, ◌&&◌, if◌then◌else◌, NoteParts, keeps_value, is_set_note}
use Rattle.mxf_views.proofs.Common.{AreBytes, ItemParts}
use Rattle.mxf_sets.specs.Items.{items_of, left_of}
use Rattle.mxf_sets.proofs.ItemLemmas.{are_items, empty_from_test, only_are}
use Rattle.mxf_views.specs.SetItems.{AreSetItems, set_items}
use Rattle.mxf_views.proofs.CopyLaws.{set_note}

abbrev items_if : Bool → Bool → Bool → List ℕ → Option (List ItemParts)
items_if set kept whole bytes = if set && kept then (if whole then Some (items_of bytes) else None) else None

items_are : (n : NoteParts) → AreBytes n.held → AreSetItems n (set_items n)
unfolding set_items
items_are n bytes =
    let kept = keeps_value n in
    let whole = length (left_of n.held) == 0 in
    elim (is_set_note n) as (λ b. is_set_note n ≡ b → AreSetItems n (items_if b kept whole n.held)) [
      | false ↦ λ e items m. let t = (set_note n).1 m.kind in cc (t, e)
      | true ↦ λ e. elim kept as (λ b. kept ≡ b → AreSetItems n (items_if true b whole n.held)) [
        | false ↦ λ k items m. let t = m.kept in cc (t, k)
        | true ↦ λ k. elim whole as (λ b. whole ≡ b → AreSetItems n (items_if true true b n.held)) [
          | false ↦ λ w items m.
              let t = eq-eqb (length (left_of n.held)) 0
              (ap (λ (x : List ℕ). length x) (only_are n.held items m.whole).1) in
              cc (t, w)
          | true ↦ λ w. record {
            kind = (set_note n).0 e;
            kept = k;
            whole = are_items n.held bytes (empty_from_test (left_of n.held) (sym w));
          }
        ] refl
      ] refl
    ] refl

one_items : (n : NoteParts) (a b : Option (List ItemParts)) → AreSetItems n a → AreSetItems n b → a ≡ b
one_items n None None x y = refl
one_items n None (Some b) x y = absurd (x b y)
one_items n (Some a) None x y = absurd (y a x)
one_items n (Some a) (Some b) x y =
    ap (λ (items : List ItemParts). Some items) (sym (only_are n.held a x.whole).0 ∙ (only_are n.held b y.whole).0)

-- The items are those that make up the value.
pub set_items_iff : (n : NoteParts) (items : Option (List ItemParts)) → AreBytes n.held
    → (set_items n ≡ items) ↔ AreSetItems n items
set_items_iff n items bytes = (
  λ e. subst (AreSetItems n) e (items_are n bytes),
  λ i. one_items n (set_items n) items (items_are n bytes) i,
)
