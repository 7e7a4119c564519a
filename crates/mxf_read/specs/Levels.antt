-- Catalogues that wait to be merged, and what merging leaves of them (this project's profile).
use Rattle.std.specs.Prelude.{◌≡◌, ◌<◌, ◌≤◌, ◌*◌, ◌^◌, ℕ, List, [], ◌∷◌, ◌++◌, length}
use Rattle.mxf_klv.specs.Parts.{NoteParts}
use Rattle.mxf_catalogue.specs.Content.{IsCatalogue, reduced_union}

-- What is left of a content that is merged into the last of the contents, and that into the one ahead, up to the first.
abbrev pub merged_with : List (List NoteParts) → List NoteParts → List NoteParts
merged_with [] notes = notes
merged_with (level ∷ levels) notes = reduced_union level (merged_with levels notes)

-- Of the old contents some stay at the front; after them stands one more, merged with the others.
abbrev pub Adds : List (List NoteParts) → List NoteParts → List (List NoteParts) → Type 0
Adds old notes new =
    (front : List (List NoteParts)) × (back : List (List NoteParts)) × (old ≡ front ++ back)
    × (new ≡ front ++ merged_with back notes ∷ [])

-- The notes are those of all contents merged, and a count of them fits.
pub record HoldsAll (levels : List (List NoteParts)) (notes : List NoteParts) : Type 0 where
  pub merged : notes ≡ merged_with levels []
  pub catalogue : IsCatalogue notes
  pub fits : length notes < 2 ^ 64

-- The first of the contents, if there is one, has half as many notes at most.
abbrev pub IsTwice : List NoteParts → List (List NoteParts) → Type 0
IsTwice notes [] = Unit {0}
IsTwice notes (level ∷ levels) = 2 * length level ≤ length notes

-- Each content has at least twice as many notes as the one after it.
abbrev pub AreBalanced : List (List NoteParts) → Type 0
AreBalanced [] = Unit {0}
AreBalanced (level ∷ levels) = IsTwice level levels × AreBalanced levels

-- The last of the contents, if there is one, has at least twice as many notes as `count`.
abbrev pub EndsAbove : List (List NoteParts) → ℕ → Type 0
EndsAbove levels count =
    (front : List (List NoteParts)) (last : List NoteParts) → levels ≡ front ++ last ∷ [] → 2 * count ≤ length last
