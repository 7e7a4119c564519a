-- What a later reading says of a note that an earlier one gave (this project's profile).
use Rattle.std.specs.Prelude.{◌≡◌, Bool, not, ◌&&◌, ◌||◌, ℕ, List, map}
use Rattle.std.specs.List.{list_any}
use Rattle.std.specs.List.Sorted.{IsNonDecreasing, IsPermutation}
use Rattle.mxf_klv.specs.Parts.{NoteParts}
use Rattle.mxf_klv.specs.Note.{covered_end, head_note}
use Rattle.mxf_klv.specs.Rising.{In}
use Rattle.mxf_catalogue.specs.Content.{IsCatalogue, has_note}
use Rattle.mxf_catalogue.specs.Disputes.{is_same_note}
use Rattle.mxf_verify.specs.Comparing.{Contradicts, contradicts}

-- One of the notes contradicts it.
abbrev pub IsContradicted : NoteParts → List NoteParts → Type 0
IsContradicted n notes = (m : NoteParts) × In m notes × Contradicts m n

-- The content opposes the note: it hasn't it, and one of its notes contradicts it.
pub record IsOpposed (n : NoteParts) (notes : List NoteParts) : Type 0 where
  pub lacked : has_note notes n → ⊥
  pub contradicted : IsContradicted n notes

-- The same as tests. A law ties them to the relations.

abbrev pub is_had : NoteParts → List NoteParts → Bool
is_had n notes = list_any (λ m. is_same_note n m || is_same_note (head_note m) n) notes

abbrev pub is_contradicted : NoteParts → List NoteParts → Bool
is_contradicted n notes = list_any (λ m. contradicts m n) notes

abbrev pub is_opposed : NoteParts → List NoteParts → Bool
is_opposed n notes = not (is_had n notes) && is_contradicted n notes

-- Where the notes of a content begin, in their order, and where the bytes that they hold end, rising.
pub record AreBounds (notes : List NoteParts) (starts ends : List ℕ) : Type 0 where
  pub catalogue : IsCatalogue notes
  pub starts_are : starts ≡ map (λ n. n.offset) notes
  pub ends_are : IsPermutation (map covered_end notes) ends
  pub ends_rise : IsNonDecreasing ends
