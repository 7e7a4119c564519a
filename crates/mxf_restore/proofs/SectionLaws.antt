-- Cuts that are left, those inside a hole, and sections.
use Rattle.mxf_views.proofs.Common.{◌≡◌, ◌&&◌, ℕ, true, false, cond, not, if◌then◌else◌, List, [], ◌∷◌, Option, Some}
use Rattle.mxf_views.proofs.Common.{None, refl, ap, filter, filter_map, cons_option, NoteParts}
use Rattle.std.specs.Option.{option_and_then}
use Rattle.mxf_places.specs.Held.{is_held, is_in_file}
use Rattle.mxf_restore.specs.Sections.{cut_of, free_cut}
use Rattle.mxf_places.specs.declared.claim.Claim.{Claim}

-- Those that are left are what is left of each claim.
abbrev pub free_cuts_among : List NoteParts → List Claim → List ℕ
free_cuts_among notes claims = filter (λ x. is_in_file notes x && not (is_held notes x)) (filter_map cut_of claims)

pub free_left : (notes : List NoteParts) (claims : List Claim)
    → free_cuts_among notes claims ≡ filter_map (free_cut notes) claims
free_left notes [] = refl
free_left notes (c ∷ claims) =
    let p = λ (x : ℕ). is_in_file notes x && not (is_held notes x) in
    elim (cut_of c) as (λ (o : Option ℕ). filter p (cons_option o (filter_map cut_of claims))
    ≡ cons_option (option_and_then (λ x. if p x then Some x else None) o) (filter_map (free_cut notes) claims)) [
      | None ↦ free_left notes claims
      | Some x ↦ elim (p x) as (λ b.
          cond b (x ∷ filter p (filter_map cut_of claims)) (filter p (filter_map cut_of claims))
          ≡ cons_option (if b then Some x else None) (filter_map (free_cut notes) claims)) [
            | true ↦ ap (λ xs. x ∷ xs) (free_left notes claims)
            | false ↦ free_left notes claims
          ]
    ]
