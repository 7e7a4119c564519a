-- Facts on rising lists that only proofs cite.
use Rattle.mxf_klv.proofs.Common.{◌≡◌, List, [], sym, subst, inl, inr, IsTotalOrder, IsAntisymmetric, Ordering, In}
use Rattle.mxf_klv.proofs.Common.{IsRising, with_one, union, same_from_members, In-with_one, In-union}
use Rattle.mxf_klv.proofs.Common.{IsRising-with_one, IsRising-union}

module _ {K : Type 0} {R : K → K → Ordering} (o : IsTotalOrder R) where
  -- What is there already changes nothing.
  pub with_one_present : IsAntisymmetric R → (x : K) (ys : List K) → IsRising R ys → In x ys → with_one R x ys ≡ ys
  with_one_present same x ys r h = same_from_members o same _ _ (IsRising-with_one o same x ys r) r
      (λ z. let l = In-with_one o same z x ys in
      (λ k. elim (l.0 k) [ inl e ↦ subst (λ w. In w ys) (sym e) h | inr m ↦ m ], λ k. l.1 (inr k)))

  pub union_none : IsAntisymmetric R → (xs : List K) → IsRising R xs → union R [] xs ≡ xs
  union_none same xs r = same_from_members o same _ _ (IsRising-union o same [] xs tt) r
      (λ z. let l = In-union o same z [] xs in (λ k. elim (l.0 k) [ inl e ↦ absurd e | inr m ↦ m ], λ k. l.1 (inr k)))
