-- Laws of reduced lists.
use Rattle.std.specs.Prelude.{◌≡◌, ◌≢◌, ◌↔◌, ◌⊎◌, Bool, true, false, not, ◌&&◌, cond, List, [], ◌∷◌, filter, refl}
use Rattle.std.specs.Prelude.{IsTrue}
use Rattle.std.specs.Bool.{Decides}
use Rattle.std.specs.Cmp.{IsTotalOrder, Equal-is}
use Rattle.std.specs.FinSet.{IsAntisymmetric}
use Rattle.std.specs.Ordering.{eq_by_cmp}
use Rattle.std.specs.declared.cmp.Ordering.{Ordering}
use Rattle.std.specs.declared.cmp.Ordering.TheVariants.{Less, Equal}
use Rattle.std.proofs.Common.{sym, ◌∙◌, ap, subst, inl, inr}
use Rattle.std.proofs.lemmas.Bool.{and_from, and_parts}
use Rattle.std.proofs.lemmas.Cmp.{tied_itself}
use Rattle.mxf_klv.specs.Rising.{In, IsRising, SameMembers, union, with_one, same_from_members, In-with_one, In-union}
use Rattle.mxf_klv.specs.Rising.{IsRising-union}
use Rattle.mxf_catalogue.specs.Reduced.{IsTold, IsReduced, Has, IsUntold, IsKnown, is_told, reduce, union_reduced}
use Rattle.mxf_klv.proofs.Lists.{list_any-In, In-filter, all-filter}
use Rattle.mxf_klv.proofs.Tests.{not_true, not-true-false}

pub rising-filter : {K : Type 0} (R : K → K → Ordering) (p : K → Bool) (xs : List K) → IsRising R xs
    → IsRising R (filter p xs)
rising-filter R p [] r = tt
rising-filter R p (x ∷ xs) r =
    elim (p x) as (λ b. IsRising R (cond b (x ∷ filter p xs) (filter p xs))) [
      | true ↦ (all-filter (λ y. R x y ≡ Less) p xs r.0, rising-filter R p xs r.1)
      | false ↦ rising-filter R p xs r.1
    ]

module _ {K : Type 0} {R : K → K → Ordering} (o : IsTotalOrder R) (same : IsAntisymmetric R) where
  -- `==` by the order tells whether two are one
  pub is_same-Decides : (a b : K) → Decides (eq_by_cmp R a b) (a ≡ b)
  is_same-Decides a b = (
    λ h. same a b ((Equal-is (R a b)).0 h),
    λ e. (Equal-is (R a b)).1 (subst (λ c. R a c ≡ Equal) e (tied_itself o a)),
  )

  pub same_or_not : (a b : K) → (a ≡ b) ⊎ (a ≢ b)
  same_or_not a b =
      let d = is_same-Decides a b in
      elim (eq_by_cmp R a b) as (λ t. eq_by_cmp R a b ≡ t → (a ≡ b) ⊎ (a ≢ b)) [
        | true ↦ λ e. inl (d.0 e)
        | false ↦ λ e. inr (λ p. let t = d.1 p in cc (t, e))
      ] refl

  module _ (tells : K → K) (once : (x : K) → tells (tells x) ≡ tells x) where
    -- the test says what the relation says
    pub is_told-IsTold : (x : K) (xs : List K) → IsTrue (is_told R tells x xs) ↔ IsTold tells x xs
    is_told-IsTold x xs =
        let l = list_any-In (λ y. not (eq_by_cmp R y x) && eq_by_cmp R (tells y) x) xs in (
          λ h.
              let s = l.0 h in
              let p = and_parts (not (eq_by_cmp R s.0 x)) (eq_by_cmp R (tells s.0) x) s.2 in (
                s.0,
                s.1,
                (λ e. not-true-false (eq_by_cmp R s.0 x) p.0 ((is_same-Decides s.0 x).1 e)),
                (is_same-Decides (tells s.0) x).0 p.1,
              ),
          λ s. l.1 (
            s.0,
            s.1,
            and_from (not (eq_by_cmp R s.0 x)) (eq_by_cmp R (tells s.0) x)
                (not_true (eq_by_cmp R s.0 x) (λ e. s.2 ((is_same-Decides s.0 x).0 e)))
                ((is_same-Decides (tells s.0) x).1 s.3),
          ),
        )

    pub told_or_not : (x : K) (xs : List K) → IsTold tells x xs ⊎ (IsTold tells x xs → ⊥)
    told_or_not x xs =
        let d = is_told-IsTold x xs in
        elim (is_told R tells x xs) as (λ b. is_told R tells x xs ≡ b → IsTold tells x xs ⊎ (IsTold tells x xs → ⊥)) [
          | true ↦ λ e. inl (d.0 e)
          | false ↦ λ e. inr (λ k. let t = d.1 k in cc (t, e))
        ] refl

    -- what tells another is told by none
    pub teller_untold : (x y : K) (xs : List K) → y ≢ x → tells y ≡ x → IsTold tells y xs → ⊥
    teller_untold x y xs ne t s =
        -- tells s.0 ≡ y, so tells y ≡ y, and x is y
        ne (sym s.3 ∙ sym (once s.0) ∙ ap tells s.3 ∙ t)

    -- what is left of a list
    pub In-reduce : (x : K) (xs : List K) → In x (reduce R tells xs) ↔ (In x xs × (IsTold tells x xs → ⊥))
    In-reduce x xs =
        let f = In-filter (λ y. not (is_told R tells y xs)) xs x in
        let d = is_told-IsTold x xs in (
          λ h. ((f.0 h).0, λ k. not-true-false (is_told R tells x xs) (f.0 h).1 (d.1 k)),
          λ h. f.1 (h.0, not_true (is_told R tells x xs) (λ e. h.1 (d.0 e))),
        )

    pub IsReduced-reduce : (xs : List K) → IsReduced tells (reduce R tells xs)
    IsReduced-reduce xs x h k =
        ((In-reduce x xs).0 h).1 (k.0, ((In-reduce k.0 xs).0 k.1).0, k.2, k.3)

    pub IsRising-reduce : (xs : List K) → IsRising R xs → IsRising R (reduce R tells xs)
    IsRising-reduce xs r = rising-filter R (λ x. not (is_told R tells x xs)) xs r

    -- what is left has what the list has
    pub Has-reduce : (x : K) (xs : List K) → Has tells (reduce R tells xs) x ↔ Has tells xs x
    Has-reduce x xs = (
      λ h. elim h [
        | inl i ↦ inl ((In-reduce x xs).0 i).0
        | inr s ↦ inr (s.0, ((In-reduce s.0 xs).0 s.1).0, s.2)
      ],
      λ h. elim h [
        | inl i ↦ elim (told_or_not x xs) [
          | inl s ↦ inr (s.0, (In-reduce s.0 xs).1 (s.1, teller_untold x s.0 xs s.2 s.3), s.3)
          | inr n ↦ inl ((In-reduce x xs).1 (i, n))
        ]
        | inr s ↦ elim (told_or_not s.0 xs) [
          | inl k ↦ inr (
            k.0,
            (In-reduce k.0 xs).1 (k.1, teller_untold s.0 k.0 xs k.2 k.3),
            -- tells k ≡ s, tells s ≡ x; tells s ≡ tells (tells k) ≡ tells k ≡ s
            sym (once k.0) ∙ ap tells k.3 ∙ s.2,
          )
          | inr n ↦ inr (s.0, (In-reduce s.0 xs).1 (s.1, n), s.2)
        ]
      ],
    )

    -- reduced lists that have the same list the same
    half : (xs ys : List K) → IsReduced tells xs → ((x : K) → Has tells xs x ↔ Has tells ys x)
        → (x : K) → In x xs → In x ys
    half xs ys r h x i =
        elim ((h x).0 (inl i)) [
          | inl j ↦ j
          | inr s ↦ elim (same_or_not s.0 x) [
            | inl e ↦ subst (λ z. In z ys) e s.1
            | inr ne ↦ absurd (elim ((h s.0).1 (inl s.1)) [
              | inl k ↦ r x i (s.0, k, ne, s.2)
              | inr k ↦ ne (sym k.2 ∙ sym (once k.0) ∙ ap tells k.2 ∙ s.2)
            ])
          ]
        ]

    pub same_from_has : (xs ys : List K) → IsReduced tells xs → IsReduced tells ys
        → ((x : K) → Has tells xs x ↔ Has tells ys x) → SameMembers xs ys
    same_from_has xs ys r s h x = (half xs ys r h x, half ys xs s (λ z. ((h z).1, (h z).0)) x)

    -- and rising ones are one list
    pub one_from_has : (xs ys : List K) → IsRising R xs → IsRising R ys → IsReduced tells xs → IsReduced tells ys
        → ((x : K) → Has tells xs x ↔ Has tells ys x) → xs ≡ ys
    one_from_has xs ys a b r s h = same_from_members o same xs ys a b (same_from_has xs ys r s h)

    pub reduce-reduced : (xs : List K) → IsRising R xs → IsReduced tells xs → reduce R tells xs ≡ xs
    reduce-reduced xs a r =
        same_from_members o same (reduce R tells xs) xs (IsRising-reduce xs a) a
        (λ x. (λ h. ((In-reduce x xs).0 h).0, λ h. (In-reduce x xs).1 (h, r x h)))

    -- what a list with one more has
    pub Has-with_one : (x n : K) (xs : List K)
        → Has tells (with_one R n xs) x ↔ ((x ≡ n) ⊎ (x ≡ tells n)) ⊎ Has tells xs x
    Has-with_one x n xs =
        let w = λ (z : K). In-with_one o same z n xs in (
          λ h. elim h [
            | inl i ↦ elim ((w x).0 i) [ inl e ↦ inl (inl e) | inr k ↦ inr (inl k) ]
            | inr s ↦ elim ((w s.0).0 s.1) [
              | inl e ↦ inl (inr (sym s.2 ∙ ap tells e))
              | inr k ↦ inr (inr (s.0, k, s.2))
            ]
          ],
          λ h. elim h [
            | inl k ↦ elim k [
              | inl e ↦ inl ((w x).1 (inl e))
              | inr e ↦ inr (n, (w n).1 (inl refl), sym e)
            ]
            | inr k ↦ elim k [ inl i ↦ inl ((w x).1 (inr i)) | inr s ↦ inr (s.0, (w s.0).1 (inr s.1), s.2) ]
          ],
        )

    -- a union has what both have, and no more
    pub Has-union : (x : K) (xs ys : List K) → Has tells (union R xs ys) x ↔ Has tells xs x ⊎ Has tells ys x
    Has-union x xs ys =
        let u = λ (z : K). In-union o same z xs ys in (
          λ h. elim h [
            | inl i ↦ elim ((u x).0 i) [ inl a ↦ inl (inl a) | inr b ↦ inr (inl b) ]
            | inr s ↦ elim ((u s.0).0 s.1) [ inl a ↦ inl (inr (s.0, a, s.2)) | inr b ↦ inr (inr (s.0, b, s.2)) ]
          ],
          λ h. elim h [
            | inl k ↦ elim k [ inl i ↦ inl ((u x).1 (inl i)) | inr s ↦ inr (s.0, (u s.0).1 (inl s.1), s.2) ]
            | inr k ↦ elim k [ inl i ↦ inl ((u x).1 (inr i)) | inr s ↦ inr (s.0, (u s.0).1 (inr s.1), s.2) ]
          ],
        )

    pub Has-union_reduced : (x : K) (xs ys : List K)
        → Has tells (union_reduced R tells xs ys) x ↔ Has tells xs x ⊎ Has tells ys x
    Has-union_reduced x xs ys =
        let a = Has-reduce x (union R xs ys) in
        let b = Has-union x xs ys in (λ h. b.0 (a.0 h), λ h. a.1 (b.1 h))

    -- THE LAW: a union is reduced alike before and after
    pub reduce-union : (xs ys : List K) → IsRising R xs → IsRising R ys
        → reduce R tells (union R xs ys) ≡ reduce R tells (union R (reduce R tells xs) (reduce R tells ys))
    reduce-union xs ys a b =
        let left = union R xs ys in
        let right = union R (reduce R tells xs) (reduce R tells ys) in
        one_from_has (reduce R tells left) (reduce R tells right)
        (IsRising-reduce left (IsRising-union o same xs ys a))
        (IsRising-reduce right (IsRising-union o same (reduce R tells xs) (reduce R tells ys) (IsRising-reduce xs a)))
        (IsReduced-reduce left) (IsReduced-reduce right)
        (λ x.
        let l = Has-union_reduced x xs ys in
        let r = Has-union_reduced x (reduce R tells xs) (reduce R tells ys) in
        let p = Has-reduce x xs in let q = Has-reduce x ys in (
          λ h. r.1 (elim (l.0 h) [ inl k ↦ inl (p.1 k) | inr k ↦ inr (q.1 k) ]),
          λ h. l.1 (elim (r.0 h) [ inl k ↦ inl (p.0 k) | inr k ↦ inr (q.0 k) ]),
        ))

    -- a reduced list that has what a set knows lists what is left of the set
    pub In-untold : (P : K → Type 0) (xs : List K) → IsReduced tells xs
        → ((x : K) → Has tells xs x ↔ IsKnown tells P x) → (x : K) → In x xs ↔ IsUntold tells P x
    In-untold P xs r h x = (
      λ i. (
        elim ((h x).0 (inl i)) [
          | inl p ↦ p
          | inr s ↦ elim ((h s.0).1 (inl s.1)) [
            | inl k ↦ elim (same_or_not s.0 x) [
              | inl e ↦ subst P e s.1
              | inr ne ↦ absurd (r x i (s.0, k, ne, s.2))
            ]
            | inr k ↦ subst P (sym k.2 ∙ sym (once k.0) ∙ ap tells k.2 ∙ s.2) s.1
          ]
        ],
        λ y p ne t. elim ((h y).1 (inl p)) [
          | inl k ↦ r x i (y, k, ne, t)
          | inr k ↦ ne (sym k.2 ∙ sym (once k.0) ∙ ap tells k.2 ∙ t)
        ],
      ),
      λ l. elim ((h x).1 (inl l.0)) [
        | inl i ↦ i
        | inr s ↦ elim (same_or_not s.0 x) [
          | inl e ↦ subst (λ z. In z xs) e s.1
          | inr ne ↦ absurd (elim ((h s.0).0 (inl s.1)) [
            | inl p ↦ l.1 s.0 p ne s.2
            | inr k ↦ ne (sym k.2 ∙ sym (once k.0) ∙ ap tells k.2 ∙ s.2)
          ])
        ]
      ],
    )
