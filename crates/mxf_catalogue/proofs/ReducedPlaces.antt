-- Where what tells an element stands in a rising list: directly behind its place.
use Rattle.mxf_klv.proofs.Common.{IsTotalOrder, IsAntisymmetric, Ordering, Less, Equal, Greater, sym, ◌∙◌, ap, subst}
use Rattle.mxf_klv.proofs.Common.{inl, inr, In, IsRising, with_one, less_in, less_back, IsRising-with_one}
use Rattle.std.specs.Prelude.{◌≡◌, ◌≢◌, ◌↔◌, ◌⊎◌, List, [], ◌∷◌, ◌++◌, refl}
use Rattle.mxf_klv.specs.Rising.{not_less_itself}
use Rattle.mxf_catalogue.specs.Reduced.{IsReduced, reduce}
use Rattle.mxf_catalogue.specs.ReducedLaws.{Has-reduce, Has-with_one, IsReduced-reduce, IsRising-reduce, one_from_has}
use Rattle.mxf_catalogue.specs.ReducedLaws.{same_or_not, teller_untold}
use Rattle.mxf_klv.proofs.Lists.{In-append, all_from_In, all_append, all_parts}

module _ {K : Type 0} {R : K → K → Ordering} (o : IsTotalOrder R) (same : IsAntisymmetric R) where
  -- what stands before and behind a place of a rising list
  pub before : (xs ys : List K) (n z : K) → IsRising R (xs ++ n ∷ ys) → In z xs → R z n ≡ Less
  before [] ys n z r h = absurd h
  before (x ∷ xs) ys n z r (inl e) = ap (λ w. R w n) e ∙ (all_parts (λ y. R x y ≡ Less) xs (n ∷ ys) r.0).1.0
  before (x ∷ xs) ys n z r (inr h) = before xs ys n z r.1 h

  pub behind : (xs ys : List K) (n z : K) → IsRising R (xs ++ n ∷ ys) → In z ys → R n z ≡ Less
  behind [] ys n z r h = less_in o n z ys r.0 h
  behind (x ∷ xs) ys n z r h = behind xs ys n z r.1 h

  tail_rises : (xs ys : List K) → IsRising R (xs ++ ys) → IsRising R ys
  tail_rises [] ys r = r
  tail_rises (x ∷ xs) ys r = tail_rises xs ys r.1

  -- another in its place rises as well, where it stands so to the others
  rises_at : (xs ys : List K) (n m : K) → IsRising R (xs ++ n ∷ ys) → ((z : K) → In z xs → R z m ≡ Less)
      → ((z : K) → In z ys → R m z ≡ Less) → IsRising R (xs ++ m ∷ ys)
  rises_at [] ys n m r f g = (all_from_In (λ z. R m z ≡ Less) ys g, r.1)
  rises_at (x ∷ xs) ys n m r f g =
      let a = all_parts (λ y. R x y ≡ Less) xs (n ∷ ys) r.0 in (
        all_append (λ y. R x y ≡ Less) xs (m ∷ ys) a.0 (f x (inl refl), a.1.1),
        rises_at xs ys n m r.1 (λ z h. f z (inr h)) g,
      )

  module _ (tells : K → K) (once : (x : K) → tells (tells x) ≡ tells x)
      (below : (x : K) → (tells x ≡ x) ⊎ (R (tells x) x ≡ Less))
      (between : (x y z : K) → R x y ≡ Less → R y z ≡ Less → tells z ≡ x → tells y ≡ x) where
    -- one that another tells stands below it
    pub teller_above : (x y : K) → y ≢ x → tells y ≡ x → R x y ≡ Less
    teller_above x y ne t = elim (below y) [ inl e ↦ absurd (ne (sym e ∙ t)) | inr l ↦ subst (λ z. R z y ≡ Less) t l ]

    -- what tells an element that isn't there stands directly behind its place
    pub next_tells : (xs ys : List K) (n w : K) → IsRising R (xs ++ n ∷ ys) → In w (xs ++ ys) → tells w ≡ n
        → (z : K) × (more : List K) × (ys ≡ z ∷ more) × (tells z ≡ n)
    next_tells xs ys n w r h t =
        let other : w ≢ n = λ e. elim ((In-append w xs ys).0 h) [
          | inl i ↦ not_less_itself o n (subst (λ z. R z n ≡ Less) e (before xs ys n w r i))
          | inr i ↦ not_less_itself o n (subst (λ z. R n z ≡ Less) e (behind xs ys n w r i))
        ] in
        let above = teller_above n w other t in
        elim ((In-append w xs ys).0 h) [
          | inl i ↦ absurd (not_less_itself o n (o.trans n w n above (before xs ys n w r i)))
          | inr i ↦ first ys i (tail_rises xs (n ∷ ys) r)
        ]
      where
        first : (ys : List K) → In w ys → IsRising R (n ∷ ys)
            → (z : K) × (more : List K) × (ys ≡ z ∷ more) × (tells z ≡ n)
        first [] i r = absurd i
        first (y ∷ ys) (inl e) r = (y, ys, refl, subst (λ z. tells z ≡ n) e t)
        first (y ∷ ys) (inr i) r = (y, ys, refl, between n y w r.0.0 (less_in o y w ys r.1.0 i) t)

    -- an element that tells one of a reduced list, in the place of that one
    module _ (xs ys : List K) (h w : K) (r : IsRising R (xs ++ h ∷ ys)) (red : IsReduced tells (xs ++ h ∷ ys))
        (t : tells w ≡ h) (ne : w ≢ h) where
      pub swap_rises : IsRising R (xs ++ w ∷ ys)
      swap_rises = rises_at xs ys h w r (λ z i. o.trans z h w (before xs ys h z r i) (teller_above h w ne t)) (λ z i.
          let there : In z (xs ++ h ∷ ys) = (In-append z xs (h ∷ ys)).1 (inr (inr i)) in
          let mid : In h (xs ++ h ∷ ys) = (In-append h xs (h ∷ ys)).1 (inr (inl refl)) in
          elim (R w z) as (λ c. R w z ≡ c → c ≡ Less) [
            | Less ↦ λ e. refl
            | Equal ↦ λ e. absurd (let p = same w z e in
                red h mid (z, there, (λ q. ne (p ∙ q)), subst (λ v. tells v ≡ h) p t))
            | Greater ↦ λ e. absurd (let l = less_back o w z e in
                let b = behind xs ys h z r i in
                red h mid (z, there, (λ q. not_less_itself o h (subst (λ v. R h v ≡ Less) q b)), between h z w b l t))
          ] refl)

      pub In-swap : (x : K) → In x (xs ++ w ∷ ys) ↔ ((x ≡ w) ⊎ (In x (xs ++ h ∷ ys) × (x ≢ h)))
      In-swap x =
          let new = In-append x xs (w ∷ ys) in
          let old = In-append x xs (h ∷ ys) in (
            λ k. elim (new.0 k) [
              | inl i ↦ inr (
                old.1 (inl i),
                λ e. not_less_itself o h (subst (λ v. R v h ≡ Less) e (before xs ys h x r i)),
              )
              | inr i ↦ elim i [
                | inl e ↦ inl e
                | inr j ↦ inr (
                  old.1 (inr (inr j)),
                  λ e. not_less_itself o h (subst (λ v. R h v ≡ Less) e (behind xs ys h x r j)),
                )
              ]
            ],
            λ k. elim k [
              | inl e ↦ new.1 (inr (inl e))
              | inr s ↦ elim (old.0 s.0) [
                | inl i ↦ new.1 (inl i)
                | inr i ↦ elim i [ inl e ↦ absurd (s.1 e) | inr j ↦ new.1 (inr (inr j)) ]
              ]
            ],
          )

      pub swap_reduced : IsReduced tells (xs ++ w ∷ ys)
      swap_reduced x i k =
          elim ((In-swap x).0 i) [
            | inl e ↦ elim ((In-swap k.0).0 k.1) [
              | inl f ↦ k.2 (f ∙ sym e)
              | inr s ↦ teller_untold o same tells once h w (xs ++ h ∷ ys) ne t
                  (k.0, s.0, (λ q. k.2 (q ∙ sym e)), k.3 ∙ e)
            ]
            | inr s ↦ elim ((In-swap k.0).0 k.1) [
              | inl f ↦ s.1 (sym k.3 ∙ ap tells f ∙ t)
              | inr q ↦ red x s.0 (k.0, q.0, k.2, k.3)
            ]
          ]

      -- the list with the new element, reduced
      pub swap_is : xs ++ w ∷ ys ≡ reduce R tells (with_one R w (xs ++ h ∷ ys))
      swap_is =
          let old = xs ++ h ∷ ys in
          let new = xs ++ w ∷ ys in
          let one = with_one R w old in
          let own : tells h ≡ h = sym (ap tells t) ∙ once w ∙ t in
          let mid : In w new = (In-swap w).1 (inl refl) in
          one_from_has o same tells once new (reduce R tells one) swap_rises
          (IsRising-reduce o same tells once one (IsRising-with_one o same w old r)) swap_reduced
          (IsReduced-reduce o same tells once one) (λ x.
          let left = Has-reduce o same tells once x one in
          let add = Has-with_one o same tells once x w old in (
            λ k. left.1 (add.1 (elim k [
              | inl i ↦ elim ((In-swap x).0 i) [ inl e ↦ inl (inl e) | inr s ↦ inr (inl s.0) ]
              | inr s ↦ elim ((In-swap s.0).0 s.1) [
                | inl e ↦ inl (inr (sym s.2 ∙ ap tells e))
                | inr q ↦ inr (inr (s.0, q.0, s.2))
              ]
            ])),
            λ k. elim (add.0 (left.0 k)) [
              | inl p ↦ elim p [ inl e ↦ inl ((In-swap x).1 (inl e)) | inr e ↦ inr (w, mid, sym e) ]
              | inr p ↦ elim p [
                | inl i ↦ elim (same_or_not o same x h) [
                  | inl e ↦ inr (w, mid, t ∙ sym e)
                  | inr n ↦ inl ((In-swap x).1 (inr (i, n)))
                ]
                | inr s ↦ elim (same_or_not o same s.0 h) [
                  | inl e ↦ inr (w, mid, t ∙ sym own ∙ sym (ap tells e) ∙ s.2)
                  | inr n ↦ inr (s.0, (In-swap s.0).1 (inr (s.1, n)), s.2)
                ]
              ]
            ],
          ))

    -- a reduced list goes on with an element above all of it that doesn't tell the last
    pub reduced_push : (xs : List K) (n : K) → IsRising R (xs ++ n ∷ []) → IsReduced tells xs
        → ((front : List K) (l : K) → xs ≡ front ++ l ∷ [] → tells n ≡ l → ⊥) → IsReduced tells (xs ++ n ∷ [])
    reduced_push xs n r red last x i k =
        elim ((In-append x xs (n ∷ [])).0 i) [
          | inl a ↦ elim ((In-append k.0 xs (n ∷ [])).0 k.1) [
            | inl b ↦ red x a (k.0, b, k.2, k.3)
            | inr b ↦ elim b [ inl e ↦ by_last xs last r red a (sym (ap tells e) ∙ k.3) | inr z ↦ z ]
          ]
          | inr a ↦ elim a [
            | inl e ↦ elim ((In-append k.0 xs (n ∷ [])).0 k.1) [
              | inl b ↦
                  let above = teller_above x k.0 k.2 k.3 in
                  let low = before xs [] n k.0 r b in
                  not_less_itself o n (o.trans n k.0 n (subst (λ v. R v k.0 ≡ Less) e above) low)
              | inr b ↦ elim b [ inl f ↦ k.2 (f ∙ sym e) | inr z ↦ z ]
            ]
            | inr z ↦ z
          ]
        ]
      where
        -- xs as a front and its last
        split : (zs : List K) → In x zs → (front : List K) × (l : K) × (zs ≡ front ++ l ∷ []) × ((x ≡ l) ⊎ In x front)
        split [] h = absurd h
        split (z ∷ []) (inl e) = ([], z, refl, inl e)
        split (z ∷ []) (inr h) = absurd h
        split (z ∷ y ∷ zs) (inl e) = let s = last_of y zs in (z ∷ s.0, s.1, ap (λ l. z ∷ l) s.2, inr (inl e))
          where
            last_of : (y : K) (zs : List K) → (front : List K) × (l : K) × (y ∷ zs ≡ front ++ l ∷ [])
            last_of y [] = ([], y, refl)
            last_of y (z ∷ zs) = let s = last_of z zs in (y ∷ s.0, s.1, ap (λ l. y ∷ l) s.2)
        split (z ∷ y ∷ zs) (inr h) =
            let s = split (y ∷ zs) h in
            (z ∷ s.0, s.1, ap (λ l. z ∷ l) s.2, elim s.3 [ inl e ↦ inl e | inr i ↦ inr (inr i) ])

        by_last : (xs : List K) → ((front : List K) (l : K) → xs ≡ front ++ l ∷ [] → tells n ≡ l → ⊥)
            → IsRising R (xs ++ n ∷ []) → IsReduced tells xs → In x xs → tells n ≡ x → ⊥
        by_last xs last r red a t =
            let s = split xs a in
            elim s.3 [
              | inl e ↦ last s.0 s.1 s.2 (t ∙ e)
              | inr i ↦
                  let in_l : In s.1 xs = subst (In s.1) (sym s.2) ((In-append s.1 s.0 (s.1 ∷ [])).1 (inr (inl refl))) in
                  let up : R s.1 n ≡ Less = before xs [] n s.1 r in_l in
                  let rxs : IsRising R (s.0 ++ s.1 ∷ []) = subst (IsRising R) s.2 (front_rises xs r) in
                  let low : R x s.1 ≡ Less = before s.0 [] s.1 x rxs i in
                  red x a (
                    s.1,
                    in_l,
                    (λ e. not_less_itself o x (subst (λ v. R x v ≡ Less) e low)),
                    between x s.1 n low up t,
                  )
            ]
          where
            front_rises : (zs : List K) → IsRising R (zs ++ n ∷ []) → IsRising R zs
            front_rises [] r = tt
            front_rises (z ∷ zs) r = ((all_parts (λ y. R z y ≡ Less) zs (n ∷ []) r.0).0, front_rises zs r.1)

    -- and doesn't with one that does
    pub unreduced_push : (xs front : List K) (n l : K) → IsRising R (xs ++ n ∷ []) → xs ≡ front ++ l ∷ []
        → tells n ≡ l → IsReduced tells (xs ++ n ∷ []) → ⊥
    unreduced_push xs front n l r e t red =
        let there : In l xs = subst (In l) (sym e) ((In-append l front (l ∷ [])).1 (inr (inl refl))) in
        red l ((In-append l xs (n ∷ [])).1 (inl there)) (
          n,
          (In-append n xs (n ∷ [])).1 (inr (inl refl)),
          (λ q. not_less_itself o l (subst (λ v. R l v ≡ Less) q (before xs [] n l r there))),
          t,
        )
