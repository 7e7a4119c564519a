-- Elements of streams in their order: what their places say.
use Rattle.mxf_views.proofs.Common.{◌≡◌, ◌∙◌, ◌<◌, ◌≤◌, ◌-◌, ◌⊎◌, ◌==◌, ℕ, zero, suc, Bool, true, false}
use Rattle.mxf_views.proofs.Common.{List, [], ◌∷◌, Some, refl, sym, ap, subst, inl, inr, arith, eq-eqb, eqb-true}
use Rattle.mxf_views.proofs.Common.{get_or, length, lt-ltb, ltb-true, nat_lt, and_from, and_parts, cases_lt}
use Rattle.mxf_views.proofs.Common.{get_or_from_slice_get, slice_get_within, IsPartitionedBy, AllByRecursion}
use Rattle.mxf_views.proofs.Common.{ordering_then, Ordering, Less, Equal, Greater, IsRising, all-In, In-at}
use Rattle.mxf_views.proofs.Common.{Contains-from_In, either}
use Rattle.std.proofs.Common.{slice_get}
use Rattle.std.specs.List.Sorted.{IsPartitionPoint}
use Rattle.mxf_partial.specs.InStreams.{ArePartedAt, GoesTo, HasNoneBelow, HasNoneFrom, IsBelow, IsFirstFrom, IsInOrder}
use Rattle.mxf_partial.specs.InStreams.{IsLastBelow, Precedes, is_below}

-- ---- the test

pub says_below : (a x s t : ℕ) → IsBelow a x s t → is_below a x s t ≡ true
says_below a x s t (inl l) = either _ _ (inl (lt-ltb _ _ l))
says_below a x s t (inr p) = either _ _ (inr (and_from (a == s) (nat_lt x t) (eq-eqb _ _ p.0) (lt-ltb _ _ p.1)))

pub below_says : (a x s t : ℕ) → is_below a x s t ≡ true → IsBelow a x s t
below_says a x s t e = grind (arith, ltb-true, and_parts, eqb-true)

module _ {T : Type 0} (stream offset tie : T → ℕ) where
  abbrev test : ℕ → ℕ → T → Bool
  test s t x = is_below (stream x) (offset x) s t

  earlier : (s t : ℕ) (x y : T) → Precedes stream offset tie x y → IsBelow (stream y) (offset y) s t
      → IsBelow (stream x) (offset x) s t
  earlier s t x y (inl l) (inl m) = inl (omega (arith, l, m))
  earlier s t x y (inl l) (inr p) = let e = p.0 in inl (omega (arith, l, e))
  earlier s t x y (inr p) (inl m) = let e = p.0 in inl (omega (arith, e, m))
  earlier s t x y (inr p) (inr q) = grind arith

  pub in_order_at : (xs : List T) (i j : ℕ) (d : T) → IsInOrder stream offset tie xs → i < j → j < length xs
      → Precedes stream offset tie (get_or xs i d) (get_or xs j d)
  in_order_at [] i j d r l h = absurd (omega arith)
  in_order_at (x ∷ xs) zero zero d r l h = absurd (omega arith)
  in_order_at (x ∷ xs) zero (suc j) d r l h =
      all-In (Precedes stream offset tie x) xs (get_or xs j d) r.0 (In-at xs j d (omega arith))
  in_order_at (x ∷ xs) (suc i) zero d r l h = absurd (omega arith)
  in_order_at (x ∷ xs) (suc i) (suc j) d r l h = in_order_at xs i j d r.1 (omega arith) (omega arith)

  pub parted : (s t : ℕ) (xs : List T) → IsInOrder stream offset tie xs → IsPartitionedBy (test s t) xs
  parted s t xs r i j d l h e =
      elim (cases_lt i j) [
        | inl m ↦ says_below _ _ s t (earlier s t (get_or xs i d) (get_or xs j d) (in_order_at xs i j d r m h)
            (below_says _ _ s t e))
        | inr m ↦
            let same : i ≡ j = omega (arith, l, m) in subst (λ k. test s t (get_or xs k d) ≡ true) (sym same) e
      ]

  pub parted_at : (s t : ℕ) (xs : List T) (k : ℕ)
      → IsPartitionPoint (λ x. test s t x ≡ true) (λ x. test s t x ≡ false) xs k
      → ArePartedAt stream offset tie xs s t k
  parted_at s t xs k point = grind (arith, below_says, says_below)

  goes_to_itself : (x y : T) → y ≡ x → GoesTo stream offset tie y x
  goes_to_itself x y e = inr (ap offset e, let f = ap tie e in omega (arith, f))

  -- Of two places of the list the element at the first goes to that at the second.
  at_places : (xs : List T) (i j : ℕ) (x y d : T) → IsInOrder stream offset tie xs → i ≤ j → j < length xs
      → get_or xs i d ≡ x → get_or xs j d ≡ y → (x ≡ y) ⊎ Precedes stream offset tie x y
  at_places xs i j x y d r l h e f =
      elim (cases_lt i j) [
        | inl m ↦ inr (subst (λ u. Precedes stream offset tie u y) e
            (subst (λ v. Precedes stream offset tie (get_or xs i d) v) f (in_order_at xs i j d r m h)))
        | inr m ↦
            let same : i ≡ j = omega (arith, l, m) in inl (sym e ∙ ap (λ k. get_or xs k d) same ∙ f)
      ]

  module _ (xs : List T) (s t k : ℕ) (r : IsInOrder stream offset tie xs) (p : ArePartedAt stream offset tie xs s t
      k) where
    -- An element of the stream below the offset stands before the place, and one from it on doesn't.
    before : (y : T) (j : ℕ) → j < length xs → get_or xs j y ≡ y → stream y ≡ s → offset y < t → j < k
    before y j h e same l = grind (arith, cases_lt)

    behind : (y : T) (j : ℕ) → get_or xs j y ≡ y → stream y ≡ s → t ≤ offset y → k ≤ j
    behind y j e same l = grind (arith, cases_lt)

    pub last_found : (x : T) → 0 < k → slice_get xs (k - 1) ≡ Some x → stream x ≡ s
        → IsLastBelow stream offset tie xs s t x
    last_found x some at same =
        grind (
          arith,
          slice_get_within,
          get_or_from_slice_get,
          In-at,
          Contains-from_In,
          before,
          at_places,
          goes_to_itself,
        )

    pub none_before : k ≡ 0 → HasNoneBelow stream offset tie xs s t
    none_before none = grind (arith, cases_lt, Contains-from_In, before)

    pub other_before : (x : T) → 0 < k → slice_get xs (k - 1) ≡ Some x → (stream x ≡ s → ⊥)
        → HasNoneBelow stream offset tie xs s t
    other_before x some at other =
        grind (arith, slice_get_within, get_or_from_slice_get, cases_lt, Contains-from_In, before, at_places)

    pub first_found : (x : T) → slice_get xs k ≡ Some x → stream x ≡ s → IsFirstFrom stream offset tie xs s t x
    first_found x at same =
        grind (
          arith,
          slice_get_within,
          get_or_from_slice_get,
          In-at,
          cases_lt,
          Contains-from_In,
          behind,
          at_places,
          goes_to_itself,
        )

    pub none_behind : length xs ≤ k → HasNoneFrom stream offset tie xs s t
    none_behind none = grind (arith, cases_lt, Contains-from_In, behind)

    pub other_behind : (x : T) → slice_get xs k ≡ Some x → (stream x ≡ s → ⊥) → HasNoneFrom stream offset tie xs s t
    other_behind x at other =
        grind (arith, slice_get_within, get_or_from_slice_get, cases_lt, Contains-from_In, behind, at_places)

-- ---- orders

pub then_less : (a b : Ordering) → ordering_then a b ≡ Less → (a ≡ Less) ⊎ ((a ≡ Equal) × (b ≡ Less))
then_less Less b e = inl refl
then_less Equal b e = inr (refl, e)
then_less Greater b e = absurd cc

-- A list that rises in an order that goes by stream and offset is in order.
pub in_order_from : {T : Type 0} (stream offset tie : T → ℕ) (R : T → T → Ordering)
    → ((x y : T) → R x y ≡ Less → Precedes stream offset tie x y) → (xs : List T) → IsRising R xs
    → IsInOrder stream offset tie xs
in_order_from stream offset tie R goes [] r = tt
in_order_from {T} stream offset tie R goes (x ∷ xs) r = (each xs r.0, in_order_from stream offset tie R goes xs r.1)
  where
    each : (ys : List T) → AllByRecursion (λ y. R x y ≡ Less) ys → AllByRecursion (Precedes stream offset tie x) ys
    each [] a = tt
    each (y ∷ ys) a = (goes x y a.0, each ys a.1)
