-- The first of a list that passes a test, and the only one.
use Rattle.mxf_views.proofs.Common.{◌≡◌, ◌∙◌, ◌↔◌, ◌++◌, Bool, true, false, cond, refl, sym, ap, subst, inl, inr, arith, List}
use Rattle.mxf_views.proofs.Common.{[], ◌∷◌, Some, In, In-append, count-none, count_by, count_by-cons, find, tally}
use Rattle.mxf_klv.proofs.Counts.{none-count}
use Rattle.mxf_clocks.specs.Choices.{IsFirst, IsOnly}

module _ {A : Type 0} (p : A → Bool) (IsSo : A → Type 0) (says : (x : A) → (p x ≡ true) ↔ IsSo x) where
  denied : (x : A) → p x ≡ false → ¬ IsSo x
  denied x e so = let t = (says x).1 so in cc (e, t)

  first_to : (xs : List A) (x : A) → find p xs ≡ Some x → IsFirst IsSo xs x
  first_to [] x e = absurd cc
  first_to (y ∷ ys) x e = elim (p y) as (λ b. p y ≡ b → cond b (Some y) (find p ys) ≡ Some x
      → IsFirst IsSo (y ∷ ys) x) [
        | true ↦ λ t e.
            let same : y ≡ x = cc in
            subst (IsFirst IsSo (y ∷ ys)) same (record {
              before = [];
              after = ys;
              there = refl;
              is_so = (says y).0 t;
              none_before = λ z h. absurd h;
            })
        | false ↦ λ f e.
            let r = first_to ys x e in
            record {
              before = y ∷ r.before;
              after = r.after;
              there = ap (λ l. y ∷ l) r.there;
              is_so = r.is_so;
              none_before = λ z h so. elim h as (λ _. ⊥) [
                | inl q ↦ denied y f (subst IsSo q so)
                | inr k ↦ r.none_before z k so
              ];
            }
      ] refl e

  find_behind : (before after : List A) (x : A) → IsSo x → ((y : A) → In y before → ¬ IsSo y)
      → find p (before ++ x ∷ after) ≡ Some x
  find_behind [] after x so none = ap (λ b. cond b (Some x) (find p after)) ((says x).1 so)
  find_behind (y ∷ ys) after x so none = elim (p y) as (λ b. p y ≡ b
      → cond b (Some y) (find p (ys ++ x ∷ after)) ≡ Some x) [
        | true ↦ λ t. absurd (none y (inl refl) ((says y).0 t))
        | false ↦ λ f. find_behind ys after x so (λ z h. none z (inr h))
      ] refl

  pub first-is : (xs : List A) (x : A) → (find p xs ≡ Some x) ↔ IsFirst IsSo xs x
  first-is xs x =
      (first_to xs x, λ r. ap (find p) r.there ∙ find_behind r.before r.after x r.is_so r.none_before)

  only_to : (xs : List A) (x : A) → In x xs → p x ≡ true → count_by p xs ≡ 1 → IsOnly IsSo xs x
  only_to [] x h t e = absurd h
  only_to (y ∷ ys) x h t e = elim (p y) as (λ b. p y ≡ b → IsOnly IsSo (y ∷ ys) x) [
    | true ↦ λ u.
        let c = count_by-cons p y ys in
        let one : tally (p y) ≡ 1 = ap tally u in
        let none : count_by p ys ≡ 0 = omega (arith, c, one, e) in
        elim h as (λ _. IsOnly IsSo (y ∷ ys) x) [
          | inl q ↦ record {
            before = [];
            after = ys;
            there = ap (λ z. z ∷ ys) (sym q);
            is_so = (says x).0 t;
            no_other = λ z k so. none-count p ys z none k ((says z).1 so);
          }
          | inr k ↦ absurd (none-count p ys x none k t)
        ]
    | false ↦ λ u.
        let c = count_by-cons p y ys in
        let zero : tally (p y) ≡ 0 = ap tally u in
        let rest : count_by p ys ≡ 1 = omega (arith, c, zero, e) in
        elim h as (λ _. IsOnly IsSo (y ∷ ys) x) [
          | inl q ↦ absurd (let v = ap p (sym q) in cc (u, t, v))
          | inr k ↦
              let r = only_to ys x k t rest in
              record {
                before = y ∷ r.before;
                after = r.after;
                there = ap (λ l. y ∷ l) r.there;
                is_so = r.is_so;
                no_other = λ z h so. elim h as (λ _. ⊥) [
                  | inl q ↦ denied y u (subst IsSo q so)
                  | inr k ↦ r.no_other z k so
                ];
              }
        ]
  ] refl

  count_behind : (before after : List A) (x : A) → IsSo x → ((y : A) → In y (before ++ after) → ¬ IsSo y)
      → count_by p (before ++ x ∷ after) ≡ 1
  count_behind [] after x so none =
      let c = count_by-cons p x after in
      let one : tally (p x) ≡ 1 = ap tally ((says x).1 so) in
      let zero = count-none p after (λ z h t. none z h ((says z).0 t)) in
      omega (arith, c, one, zero)
  count_behind (y ∷ ys) after x so none =
      let c = count_by-cons p y (ys ++ x ∷ after) in
      let rest = count_behind ys after x so (λ z h. none z (inr h)) in
      elim (p y) as (λ b. p y ≡ b → count_by p (y ∷ ys ++ x ∷ after) ≡ 1) [
        | true ↦ λ t. absurd (none y (inl refl) ((says y).0 t))
        | false ↦ λ f. let zero : tally (p y) ≡ 0 = ap tally f in omega (arith, c, zero, rest)
      ] refl

  pub only-is : (xs : List A) (x : A) → (In x xs × (p x ≡ true) × (count_by p xs ≡ 1)) ↔ IsOnly IsSo xs x
  only-is xs x = (
    λ h. only_to xs x h.0 h.1 h.2,
    λ r. (
      subst (In x) (sym r.there) ((In-append x r.before (x ∷ r.after)).1 (inr (inl refl))),
      (says x).1 r.is_so,
      ap (count_by p) r.there ∙ count_behind r.before r.after x r.is_so r.no_other,
    ),
  )
