-- Where the packet begins of which a section is the rest, by the function and by the relation.
use Rattle.mxf_views.proofs.Common.{◌≡◌, ◌↔◌, ◌∙◌, ◌&&◌, ◌==◌, ◌≤◌, ℕ, Bool, true, false, not, cond, find, filter}
use Rattle.mxf_views.proofs.Common.{IsTrue, List, [], ◌∷◌, None, Some, refl, sym, ap, subst, inl, inr, arith, eqb-true}
use Rattle.mxf_views.proofs.Common.{eq-eqb, and_from, and_parts, cases_Bool, same_Some, option_map_or, Less, NoteParts}
use Rattle.mxf_views.proofs.Common.{covered_end, note_cmp, In, In-filter, all-In, found-In, none_found, not-true-false}
use Rattle.mxf_views.proofs.Common.{IsContent, offset_le}
use Rattle.mxf_restore.specs.Orders.{IsHeadTo, IsStartOf}
use Rattle.mxf_places.specs.Heads.{is_head_to, start_of}

-- The first note of a content that passes a test has the least offset of those that do.
least : (p : NoteParts → Bool) (notes : List NoteParts) → IsContent notes → (n m : NoteParts) → find p notes ≡ Some n
    → In m notes → IsTrue (p m) → n.offset ≤ m.offset
least p [] c n m e k t = absurd k
least p (x ∷ xs) c n m e k t =
    elim (p x) as (λ b. p x ≡ b → cond b (Some x) (find p xs) ≡ Some n → n.offset ≤ m.offset) [
      | true ↦ λ s f.
          let same = ap (λ (y : NoteParts). y.offset) (same_Some x n f) in
          elim k [
            | inl i ↦ (let other = ap (λ (y : NoteParts). y.offset) i in omega (arith, same, other))
            | inr j ↦ (
                let l = offset_le x m (all-In (λ y. note_cmp x y ≡ Less) xs m c.0 j) in omega (arith, same, l))
          ]
      | false ↦ λ s f. elim k [ inl i ↦ absurd (let u = ap p i in cc (u, t, s)) | inr j ↦ least p xs c.1 n m f j t ]
    ] refl e

pub head_says : (first : ℕ) (n : NoteParts)
    → IsTrue (is_head_to first n) ↔ ((n.whole ≡ false) × (covered_end n ≡ first))
head_says first n = (
  λ t.
      let s = and_parts (not n.whole) (covered_end n == first) t in
      (not_whole s.0, eqb-true (covered_end n) first s.1),
  λ h. and_from (not n.whole) (covered_end n == first) (ap not h.0) (eq-eqb (covered_end n) first h.1),
) where
  not_whole : not n.whole ≡ true → n.whole ≡ false
  not_whole s = elim (cases_Bool n.whole) [ inl e ↦ absurd (not-true-false n.whole s e) | inr e ↦ e ]

module _ (notes : List NoteParts) where
  -- The heads from one offset to another are those of a filter.
  pub heads_say : (start first : ℕ) (n : NoteParts)
      → In n (filter (λ m. is_head_to first m && (m.offset == start)) notes) ↔ IsHeadTo notes start first n
  heads_say start first n =
      let f = In-filter (λ m. is_head_to first m && (m.offset == start)) notes n in
      let h = head_says first n in (
        λ k.
            let s = f.0 k in
            let t = and_parts (is_head_to first n) (n.offset == start) s.1 in
            let u = h.0 t.0 in
            record { held = s.0; head = u.0; begins = eqb-true n.offset start t.1; ends = u.1 },
        λ r. f.1 (
          r.held,
          and_from (is_head_to first n) (n.offset == start) (h.1 (r.head, r.ends)) (eq-eqb n.offset start r.begins),
        ),
      )

  pub start_is : IsContent notes → (first : ℕ) → IsStartOf notes first (start_of notes first)
  start_is content first = elim (find (is_head_to first) notes) as (λ o. find (is_head_to first) notes ≡ o
      → IsStartOf notes first (option_map_or (λ n. n.offset) o first)) [
        | None ↦ λ e. inr (
          refl,
          λ x m h. none_found (is_head_to first) notes m e h.held ((head_says first m).1 (h.head, h.ends)),
        )
        | Some n ↦ λ e.
            let k = found-In (is_head_to first) notes n e in
            let s = (head_says first n).0 k.1 in
            inl (
              n,
              record { held = k.0; head = s.0; begins = refl; ends = s.1 },
              λ x m h.
                  let is = (head_says first m).1 (h.head, h.ends) in
                  let l = least (is_head_to first) notes content n m e h.held is in
                  let b = h.begins in omega (arith, l, b),
            )
      ] refl

  pub one_start_of : (first a b : ℕ) → IsStartOf notes first a → IsStartOf notes first b → a ≡ b
  one_start_of first a b (inl s) (inl t) =
      let up = s.2 b t.0 t.1 in
      let down = t.2 a s.0 s.1 in omega (arith, up, down)
  one_start_of first a b (inl s) (inr t) = absurd (t.1 a s.0 s.1)
  one_start_of first a b (inr s) (inl t) = absurd (s.1 b t.0 t.1)
  one_start_of first a b (inr s) (inr t) = s.0 ∙ sym t.0

  pub start_says : IsContent notes → (first start : ℕ) → (start_of notes first ≡ start) ↔ IsStartOf notes first start
  start_says content first start = (
    λ e. subst (IsStartOf notes first) e (start_is content first),
    λ s. one_start_of first (start_of notes first) start (start_is content first) s,
  )
