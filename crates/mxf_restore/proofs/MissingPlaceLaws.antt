-- Missing places, by the test and by what they are.
use Rattle.mxf_views.proofs.Common.{◌≡◌, ◌↔◌, ◌∙◌, ◌⊎◌, ◌&&◌, ◌||◌, ◌==◌, ℕ, Bool, true, false, IsTrue, List, Option}
use Rattle.mxf_views.proofs.Common.{Some, None, refl, ap, inl, inr, not, filter_map, find, eqb-true, and_from}
use Rattle.mxf_views.proofs.Common.{and_parts, or_cases, or_left, or_right, option_map_or, NoteParts, In, In-filter}
use Rattle.mxf_views.proofs.Common.{In-filter_map, found-In, not-true-false, not_true, undisputed_notes}
use Rattle.mxf_views.proofs.Common.{undisputed_at-found}
use Rattle.mxf_places.specs.Claims.{claims_of, named_place}
use Rattle.mxf_places.specs.Held.{IsHeld, begins_clear_head, is_disputed_at, is_held, is_in_file}
use Rattle.mxf_places.proofs.EndLaws.{in_file_says}
use Rattle.mxf_places.proofs.FirstLaws.{names_say}
use Rattle.mxf_places.proofs.HeldLaws.{is_disputed_at-says, is_held-says}
use Rattle.mxf_places.proofs.OverLaws.{alone, among, moved}
use Rattle.mxf_restore.specs.Missing.{BeginsHead, IsMissing, IsMissingPlace, is_missing, missing_places}

module _ (notes : List NoteParts) (x : ℕ) where
  head_says : IsTrue (begins_clear_head notes x) ↔ BeginsHead notes x
  head_says =
      let found = find (λ n. n.offset == x) (undisputed_notes notes) in (
        λ h. elim found as (λ (o : Option NoteParts). found ≡ o → option_map_or (λ n. not n.whole) o false ≡ true
            → BeginsHead notes x) [
              | None ↦ λ f g. absurd (cc (g))
              | Some n ↦ λ f g.
                  let k = found-In (λ (n : NoteParts). n.offset == x) (undisputed_notes notes) n f in
                  (n, moved notes n n.offset x (alone notes n k.0) (eqb-true n.offset x k.1), no n.whole g)
            ] refl h,
        λ b. ap (λ (o : Option NoteParts). option_map_or (λ n. not n.whole) o false)
            (undisputed_at-found x notes b.0 (among notes b.0 x b.1) b.1.offset) ∙ ap not b.2,
      )
    where
      no : (b : Bool) → not b ≡ true → b ≡ false
      no true e = absurd (cc (e))
      no false e = refl

  lacks : IsTrue (begins_clear_head notes x || not (is_held notes x)) → BeginsHead notes x ⊎ ¬ IsHeld notes x
  lacks h = elim (or_cases (begins_clear_head notes x) (not (is_held notes x)) h) [
    | inl b ↦ inl (head_says.0 b)
    | inr n ↦ inr (λ k. not-true-false (is_held notes x) n ((is_held-says notes x).1 k))
  ]

  lacking : BeginsHead notes x ⊎ ¬ IsHeld notes x → IsTrue (begins_clear_head notes x || not (is_held notes x))
  lacking (inl b) = or_left (begins_clear_head notes x) (not (is_held notes x)) (head_says.1 b)
  lacking (inr n) = or_right (begins_clear_head notes x) (not (is_held notes x))
      (not_true (is_held notes x) (λ t. n ((is_held-says notes x).0 t)))

  pub missing_says : IsTrue (is_missing notes x) ↔ IsMissing notes x
  missing_says =
      let rest = begins_clear_head notes x || not (is_held notes x) in
      let clear = not (is_disputed_at notes x) in (
        λ h.
            let p = and_parts (is_in_file notes x && clear) rest h in
            let q = and_parts (is_in_file notes x) clear p.0 in
            record {
              in_file = (in_file_says notes x).0 q.0;
              undisputed = λ d. not-true-false (is_disputed_at notes x) q.1 ((is_disputed_at-says notes x).1 d);
              lacks = lacks p.1;
            },
        λ m. and_from (is_in_file notes x && clear) rest
            (and_from (is_in_file notes x) clear ((in_file_says notes x).1 m.in_file)
            (not_true (is_disputed_at notes x) (λ t. m.undisputed ((is_disputed_at-says notes x).0 t))))
            (lacking m.lacks),
      )

  pub missing_places_say : In x (missing_places notes) ↔ IsMissingPlace notes x
  unfolding missing_places
  missing_places_say =
      let f = In-filter (is_missing notes) (filter_map named_place (claims_of notes)) x in
      let m = In-filter_map named_place (claims_of notes) x in (
        λ h.
            let k = f.0 h in
            let c = m.0 k.0 in (c.0, c.1, (names_say c.0 x).0 c.2, missing_says.0 k.1),
        λ p. f.1 (m.1 (p.0, p.1, (names_say p.0 x).1 p.2), missing_says.1 p.3),
      )
