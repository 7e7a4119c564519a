-- Catalogues that wait to be merged: what adding one leaves, in balance, and what merging all does.
use Rattle.mxf_views.proofs.Common.{◌≡◌, List, [], ◌∷◌, ◌++◌, length, refl, sym, ap, ◌∙◌, append_assoc, NoteParts}
use Rattle.mxf_views.proofs.Common.{reduced_union}
use Rattle.mxf_read.specs.Levels.{Adds, AreBalanced, EndsAbove, merged_with}

pub balanced_front : (levels back : List (List NoteParts)) → AreBalanced (levels ++ back) → AreBalanced levels
balanced_front [] back b = tt
balanced_front (level ∷ []) back b = (tt, tt)
balanced_front (level ∷ next ∷ levels) back b = (b.0, balanced_front (next ∷ levels) back b.1)

pub balanced_last : (levels : List (List NoteParts)) (notes : List NoteParts) → AreBalanced levels
    → EndsAbove levels (length notes) → AreBalanced (levels ++ notes ∷ [])
balanced_last [] notes b e = (tt, tt)
balanced_last (level ∷ []) notes b e = (e [] level refl, (tt, tt))
balanced_last (level ∷ next ∷ levels) notes b e = (
  b.0,
  balanced_last (next ∷ levels) notes b.1 (λ front last is. e (level ∷ front) last (ap (λ (l : List _). level ∷ l) is)),
)

-- Those that wait are the first of the old ones, and what is merged is the others with a catalogue.
pub record IsAdding (merged : List NoteParts) (levels : List (List NoteParts)) (notes : List NoteParts)
    (old : List (List NoteParts)) : Type 0 where
  pub back : List (List NoteParts)
  pub whole : old ≡ levels ++ back
  pub is : merged ≡ merged_with back notes

-- the last that waited was merged
pub adding_one : (merged next last notes : List NoteParts) (levels rest old : List (List NoteParts))
    → IsAdding merged levels notes old → levels ≡ rest ++ last ∷ [] → next ≡ reduced_union last merged
    → IsAdding next rest notes old
adding_one merged next last notes levels rest old h is e = record {
  back = last ∷ h.back;
  whole = h.whole ∙ ap (λ (l : List (List NoteParts)). l ++ h.back) is ∙ append_assoc rest (last ∷ []) h.back;
  is = e ∙ ap (reduced_union last) h.is;
}

-- what was merged waits behind the others
pub adding_last : (merged notes : List NoteParts) (levels new old : List (List NoteParts))
    → IsAdding merged levels notes old → new ≡ levels ++ merged ∷ [] → Adds old notes new
adding_last merged notes levels new old h is =
    (levels, h.back, h.whole, is ∙ ap (λ (m : List NoteParts). levels ++ m ∷ []) h.is)

-- all are merged
pub adding_all : (merged : List NoteParts) (levels old : List (List NoteParts)) → IsAdding merged levels [] old
    → levels ≡ [] → merged ≡ merged_with old []
adding_all merged levels old h none = h.is ∙ ap (λ (l : List (List NoteParts)). merged_with l []) (sym (h.whole
    ∙ ap (λ (l : List (List NoteParts)). l ++ h.back) none))
