-- What is saved of packets that were passed over.
use Rattle.mxf_klv.proofs.Common.{◌≡◌, ◌↔◌, true, false, List, [], refl, ap, ◌∙◌, inl, inr, map}
use Rattle.mxf_klv.proofs.Common.{NoteParts, In, head_note}
use Rattle.mxf_klv.proofs.Lists.{In-map}
use Rattle.std.specs.Prelude.{if◌then◌else◌}
use Rattle.mxf_catalogue.specs.Content.{IsContent, has_note, reduced_union-IsUnion}
use Rattle.mxf_catalogue.specs.Reduced.{IsKnown}
use Rattle.mxf_catalogue.proofs.HeadLaws.{AreReduced-reduced_union, In-located, IsContent-reduced_union}
use Rattle.mxf_skim.specs.PassedOver.{is_passed_over}
use Rattle.mxf_skim.specs.Saving.{IsSaved, saved_note, with_heads}

pub IsContent-with_heads : (notes : List NoteParts) → IsContent (with_heads notes)
IsContent-with_heads notes = IsContent-reduced_union [] (map saved_note notes) tt

abbrev saved_of : List NoteParts → NoteParts → Type 0
saved_of notes m = (x : NoteParts) × In x notes × (m ≡ saved_note x)

has_saved : (notes : List NoteParts) (n : NoteParts)
    → has_note (with_heads notes) n ↔ IsKnown head_note (saved_of notes) n
has_saved notes n =
    let both = reduced_union-IsUnion [] (map saved_note notes) n in
    let some = λ (m : NoteParts). In-map saved_note notes m in (
      λ h. elim (both.0 h) [
        | inl k ↦ elim k [ inl i ↦ absurd i | inr s ↦ absurd s.1 ]
        | inr k ↦ elim k [ inl i ↦ inl ((some n).0 i) | inr s ↦ inr (s.0, (some s.0).0 s.1, s.2) ]
      ],
      λ h. both.1 (inr (elim h [ inl i ↦ inl ((some n).1 i) | inr s ↦ inr (s.0, (some s.0).1 s.1, s.2) ])),
    )

pub In-with_heads : (n : NoteParts) (notes : List NoteParts) → In n (with_heads notes) ↔ IsSaved notes n
In-with_heads n notes = In-located (saved_of notes) (with_heads notes)
    (AreReduced-reduced_union [] (map saved_note notes) (λ x i k. i)) (has_saved notes) n

-- no note of a packet that was passed over is saved
saved_read : (x : NoteParts) → is_passed_over (saved_note x) ≡ false
saved_read x = elim (is_passed_over x) as (λ b. is_passed_over x ≡ b
    → is_passed_over (if b then head_note x else x) ≡ false) [
      | true ↦ λ e. refl
      | false ↦ λ e. e
    ] refl

pub none_passed : (n : NoteParts) (notes : List NoteParts) → In n (with_heads notes) → is_passed_over n ≡ false
none_passed n notes i =
    let (x, there, same) = ((In-with_heads n notes).0 i).0 in ap is_passed_over same ∙ saved_read x
