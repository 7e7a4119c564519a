-- The end of the file, what may lie in it, and of what isn't known what begins there: by functions and by relations.
use Rattle.mxf_views.proofs.Common.{◌≡◌, ◌↔◌, ◌∙◌, ◌<◌, ◌≤◌, ◌+◌, ◌-◌, ◌||◌, ℕ, true, false, IsTrue, List, Option, Some}
use Rattle.mxf_views.proofs.Common.{None, refl, sym, ap, subst, inl, inr, nat_lt, not, cond, find, option_and_then}
use Rattle.mxf_views.proofs.Common.{option_map, arith, lt-ltb, ltb-true, eqb-true, ◌==◌, and_from, and_parts, or_cases}
use Rattle.mxf_views.proofs.Common.{or_left, or_right, same_Some, option_map_or, NoteParts, covered_end, end_of}
use Rattle.mxf_views.proofs.Common.{greatest_end, found-In, list_any-In, not_true, not-true-false, clear_notes}
use Rattle.mxf_views.proofs.Common.{In-clear_notes, clear_at-found, covers_first, RipAtParts, rip_view_of}
use Rattle.mxf_views.specs.declared.random_index.RipView.{RipView}
use Rattle.mxf_views.specs.declared.random_index.RipView.TheVariants.{Absent, Several, Unreadable, One}
use Rattle.mxf_places.specs.Claims.{is_unknown}
use Rattle.mxf_places.specs.Held.{IsEndOfFile, IsHeld, end_of_file, is_disputed_at, is_held, is_in_file, reaches_past}
use Rattle.mxf_places.specs.Held.{rip_end_by}
use Rattle.mxf_places.specs.Named.{IsInFile, IsUnknown}
use Rattle.mxf_places.proofs.HeldLaws.{is_disputed_at-says, is_held-says}

module _ (notes : List NoteParts) where
  -- No packet covers an offset at or above the end.
  none_past : (end : ℕ) → (reaches_past end notes ≡ false) ↔ ((x : ℕ) → end ≤ x → IsHeld notes x → ⊥)
  none_past end =
      let any = list_any-In (λ n. nat_lt end (covered_end n)) notes in (
        λ e x l h.
            let c : x + 1 ≤ covered_end h.0 = h.2.before in
            let t = any.1 (h.0, h.1, lt-ltb end (covered_end h.0) (omega (arith, l, c))) in cc (t, e),
        λ f. elim (reaches_past end notes) as (λ b. reaches_past end notes ≡ b → b ≡ false) [
          | false ↦ λ _. refl
          | true ↦ λ e.
              let s = any.0 e in
              let past : end < covered_end s.0 = ltb-true _ _ s.2 in
              let first = covers_first s.0 in
              let from : s.0.offset ≤ covered_end s.0 - 1 = omega (arith, first) in
              let before : covered_end s.0 - 1 + 1 ≤ covered_end s.0 = omega (arith, first) in
              absurd (f (covered_end s.0 - 1) (omega (arith, past)) (s.0, s.1, record { from = from; before = before }))
        ] refl,
      )

  -- The end of the pack, unless something is held at or above it.
  abbrev if_last : ℕ → Option ℕ
  if_last e = cond (reaches_past e notes) None (Some e)

  ends_with : (end : ℕ) (r : RipAtParts) (n : NoteParts) → rip_view_of notes ≡ One r
      → find (λ m. m.offset == r.offset) (clear_notes notes) ≡ Some n → if_last (end_of n) ≡ Some end
      → IsEndOfFile notes end
  ends_with end r n view found e =
      let k = found-In (λ (m : NoteParts). m.offset == r.offset) (clear_notes notes) n found in
      elim (reaches_past (end_of n) notes) as (λ b. reaches_past (end_of n) notes ≡ b
      → cond b None (Some (end_of n)) ≡ Some end → IsEndOfFile notes end) [
        | true ↦ λ _ u. absurd (cc (u))
        | false ↦ λ none u.
            let same : end_of n ≡ end = same_Some _ _ u in
            record {
              pack = n;
              clear = (In-clear_notes n notes).0 k.0;
              only = (r, view, sym (eqb-true _ _ k.1));
              end_is = sym same;
              last = λ x l. (none_past (end_of n)).0 none x (omega (arith, same, l));
            }
      ] refl e

  ends_by : (end : ℕ) (v : RipView) → rip_view_of notes ≡ v → option_and_then if_last (rip_end_by notes v) ≡ Some end
      → IsEndOfFile notes end
  ends_by end Absent view e = absurd (cc (e))
  ends_by end Several view e = absurd (cc (e))
  ends_by end (Unreadable offset) view e = absurd (cc (e))
  ends_by end (One r) view e = elim (find (λ m. m.offset == r.offset) (clear_notes notes)) as (λ o.
      find (λ m. m.offset == r.offset) (clear_notes notes) ≡ o
      → option_and_then if_last (option_map end_of o) ≡ Some end → IsEndOfFile notes end) [
        | None ↦ λ _ u. absurd (cc (u))
        | Some n ↦ λ found u. ends_with end r n view found u
      ] refl e

  pub end_says : (end : ℕ) → (end_of_file notes ≡ Some end) ↔ IsEndOfFile notes end
  unfolding end_of_file
  end_says end = (
    λ e. ends_by end (rip_view_of notes) refl e,
    λ k.
        let r = k.only.0 in
        ap (λ v. option_and_then if_last (rip_end_by notes v)) k.only.1
        ∙ ap (λ (o : Option NoteParts). option_and_then if_last (option_map end_of o))
        (clear_at-found r.offset notes k.pack k.clear (sym k.only.2)) ∙ ap (λ b. cond b None (Some (end_of k.pack)))
        ((none_past (end_of k.pack)).1 (λ x l. k.last x (omega (arith, k.end_is, l))))
        ∙ ap (λ (e : ℕ). Some e) (sym k.end_is),
  )

  pub in_file_says : (x : ℕ) → IsTrue (is_in_file notes x) ↔ IsInFile notes x
  in_file_says x = (
    λ h.
        let p = and_parts (nat_lt x greatest_end) (option_map_or (λ e. nat_lt x e) (end_of_file notes) true) h in
        record {
          below = ltb-true _ _ p.0;
          before = λ end k. ltb-true _ _ (subst (λ o. IsTrue (option_map_or (λ e. nat_lt x e) o true))
              ((end_says end).1 k) p.1);
        },
    λ k. and_from (nat_lt x greatest_end) (option_map_or (λ e. nat_lt x e) (end_of_file notes) true)
        (lt-ltb x greatest_end k.below)
        (elim (end_of_file notes) as (λ o. end_of_file notes ≡ o → IsTrue (option_map_or (λ e. nat_lt x e) o true)) [
          | None ↦ λ _. refl
          | Some e ↦ λ f. lt-ltb x e (k.before e ((end_says e).0 f))
        ] refl),
  )

  pub unknown_says : (x : ℕ) → IsTrue (is_unknown notes x) ↔ IsUnknown notes x
  unknown_says x = (
    λ h.
        let p = and_parts (is_in_file notes x) (is_disputed_at notes x || not (is_held notes x)) h in
        record {
          in_file = (in_file_says x).0 p.0;
          why = elim (or_cases (is_disputed_at notes x) (not (is_held notes x)) p.1) [
            | inl d ↦ inl ((is_disputed_at-says notes x).0 d)
            | inr n ↦ inr (λ k. not-true-false (is_held notes x) n ((is_held-says notes x).1 k))
          ];
        },
    λ k. and_from (is_in_file notes x) (is_disputed_at notes x || not (is_held notes x)) ((in_file_says x).1 k.in_file)
        (elim k.why [
          | inl d ↦ or_left (is_disputed_at notes x) (not (is_held notes x)) ((is_disputed_at-says notes x).1 d)
          | inr n ↦ or_right (is_disputed_at notes x) (not (is_held notes x))
              (not_true (is_held notes x) (λ e. n ((is_held-says notes x).0 e)))
        ]),
  )
