-- What is saved of a skim, beside the reading.
use Rattle.mxf_views.proofs.Common.{◌≡◌, true, false, if◌then◌else◌, List, [], refl, sym, ap, subst, ◌∙◌, inl, inr, map}
use Rattle.mxf_views.proofs.Common.{NoteParts, In, In-map, IsContent, AreReduced, has_note, head_note, reduced_union}
use Rattle.mxf_views.proofs.Common.{has-reduced_union, one_reduced, AreReduced-reduced_union, IsContent-reduced_union}
use Rattle.mxf_views.proofs.Common.{ℕ, Option}
use Rattle.mxf_read.specs.declared.gathering.part.Part.{Part}
use Rattle.mxf_skimmed.specs.SkimmedRuns.{AreReadAndSkimmed}
use Rattle.mxf_skim.specs.PassedOver.{is_passed_over, skimmed}
use Rattle.mxf_skim.specs.Saving.{saved_note, with_heads}
use Rattle.mxf_read.proofs.SkimsAndReadings.{as_noted}
use Rattle.mxf_skimmed.specs.Skims.{NoneAlike, noted_beside, skim_beside}
use Rattle.mxf_skimmed.proofs.SkimmedNotes.{either_note}
use Rattle.mxf_skimmed.proofs.RunLaws.{passed_over_is, skim_of_parts, skimmed_head}

-- What is saved of some notes tells a content nothing that has the saved note of each.
module _ (notes some : List NoteParts) (each : (m : NoteParts) → In m some → has_note notes (saved_note m)) where
  from_saved : (x : NoteParts) → In x (map saved_note some) → has_note notes x
  from_saved x i =
      let (y, j, is) = (In-map saved_note some x).0 i in subst (has_note notes) (sym is) (each y j)

  -- what a note tells that the content has, it has
  has_head : (x : NoteParts) → has_note notes x → has_note notes (head_note x)
  has_head x h = elim h [
    | inl i ↦ inr (x, i, refl)
    | inr s ↦ inr (s.0, s.1, ap head_note s.2)
  ]

  saved_known : (n : NoteParts) → has_note (with_heads some) n → has_note notes n
  saved_known n h = elim ((has-reduced_union n [] (map saved_note some)).0 h) [
    | inl k ↦ elim k [ inl i ↦ absurd i | inr s ↦ absurd s.1 ]
    | inr k ↦ elim k [
      | inl i ↦ from_saved n i
      | inr s ↦ subst (has_note notes) s.2 (has_head s.0 (from_saved s.0 s.1))
    ]
  ]

  saved_tells_nothing : IsContent notes → AreReduced notes → reduced_union (with_heads some) notes ≡ notes
  saved_tells_nothing content reduced =
      let heads = map saved_note some in
      let union = with_heads some in
      one_reduced (reduced_union union notes) notes
      (IsContent-reduced_union union notes (IsContent-reduced_union [] heads tt)) content
      (AreReduced-reduced_union union notes (AreReduced-reduced_union [] heads (λ x i k. i))) reduced
      (λ n.
      let both = has-reduced_union n union notes in
      (λ h. elim (both.0 h) [ inl k ↦ saved_known n k | inr k ↦ k ], λ h. both.1 (inr h)))

-- a content has what is saved of each of its notes
own_saved : (notes : List NoteParts) (m : NoteParts) → In m notes → has_note notes (saved_note m)
own_saved notes m i = elim (is_passed_over m) as (λ b. has_note notes (if b then head_note m else m)) [
  | true ↦ inr (m, i, refl)
  | false ↦ inl i
]

pub saved_itself : (notes : List NoteParts) → IsContent notes → AreReduced notes
    → reduced_union (with_heads notes) notes ≡ notes
saved_itself notes = saved_tells_nothing notes notes (own_saved notes)

module _ (saved notes : List NoteParts) where
  -- and of what a skim makes of it
  skim_saved : (m : NoteParts) → In m notes → has_note notes (saved_note (skimmed m))
  skim_saved m i = elim (as_noted m) [
    | inl e ↦ subst (λ x. has_note notes (saved_note x)) (sym e) (own_saved notes m i)
    | inr s ↦
        let over : is_passed_over (skimmed m) ≡ true = ap is_passed_over s.1 ∙ passed_over_is m s.0 in
        inr (m, i, sym (ap (λ b. if b then head_note (skimmed m) else skimmed m) over ∙ skimmed_head m))
  ]

  each_saved : (y : NoteParts) → In y (skim_beside saved notes) → has_note notes (saved_note y)
  each_saved y j =
      let (m, k, at) = (In-map (noted_beside saved) notes y).0 j in
      subst (has_note notes) (sym (ap saved_note at))
      (either_note saved (λ z. has_note notes (saved_note z)) m (own_saved notes m k) (skim_saved m k))

  pub saved_beside : IsContent notes → AreReduced notes
      → reduced_union (with_heads (skim_beside saved notes)) notes ≡ notes
  saved_beside = saved_tells_nothing notes (skim_beside saved notes) each_saved

-- the same of parts
pub saved_parts : {R : Type 0} (left : R → Option (List ℕ)) (parts : List (Part R)) (notes skim : List NoteParts)
    → AreReadAndSkimmed left parts notes skim → NoneAlike notes → reduced_union (with_heads skim) notes ≡ notes
saved_parts left parts notes skim are apart =
    let is = skim_of_parts left parts notes skim are apart in
    let file = are.read.file.1 in
    subst (λ (l : List NoteParts). reduced_union (with_heads l) notes ≡ notes) (sym is.noted)
    (saved_beside is.saved notes file.catalogue.content file.reduced)
