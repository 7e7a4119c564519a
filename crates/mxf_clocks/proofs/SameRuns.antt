-- Lists of the same members, and what is made of them in order.
use Rattle.mxf_views.proofs.Common.{◌≡◌, ◌++◌, subst, sym, inl, inr, List, [], append_assoc, In, In-append}
use Rattle.mxf_views.proofs.Common.{In-union, IsRising-union, SameMembers, same_from_members, union}
use Rattle.mxf_clocks.specs.RunLaws.{run_cmp-IsAntisymmetric, run_total}
use Rattle.mxf_clocks.specs.RunOrder.{run_cmp}
use Rattle.mxf_clocks.specs.Runs.{RunParts}

-- Each once and in order, lists of the same members are one.
pub same_union : (xs ys : List RunParts) → SameMembers xs ys → union run_cmp [] xs ≡ union run_cmp [] ys
same_union xs ys same = same_from_members run_total run_cmp-IsAntisymmetric (union run_cmp [] xs) (union run_cmp [] ys)
    (IsRising-union run_total run_cmp-IsAntisymmetric [] xs tt) (IsRising-union run_total run_cmp-IsAntisymmetric [] ys tt)
    (λ r.
    let a = In-union run_total run_cmp-IsAntisymmetric r [] xs in
    let b = In-union run_total run_cmp-IsAntisymmetric r [] ys in (
      λ h. b.1 (elim (a.0 h) [ inl n ↦ absurd n | inr k ↦ inr ((same r).0 k) ]),
      λ h. a.1 (elim (b.0 h) [ inl n ↦ absurd n | inr k ↦ inr ((same r).1 k) ]),
    ))

pub same_itself : {K : Type 0} (xs ys : List K) → xs ≡ ys → SameMembers xs ys
same_itself xs ys e r = (λ h. subst (In r) e h, λ h. subst (In r) (sym e) h)

pub same_on : {K : Type 0} (xs ys zs : List K) → SameMembers xs ys → SameMembers ys zs → SameMembers xs zs
same_on xs ys zs a b r = (λ h. (b r).0 ((a r).0 h), λ h. (a r).1 ((b r).1 h))

pub same_front : {K : Type 0} (xs ys zs : List K) → SameMembers xs ys → SameMembers (xs ++ zs) (ys ++ zs)
same_front xs ys zs same r =
    let a = In-append r xs zs in
    let b = In-append r ys zs in (
      λ h. b.1 (elim (a.0 h) [ inl k ↦ inl ((same r).0 k) | inr k ↦ inr k ]),
      λ h. a.1 (elim (b.0 h) [ inl k ↦ inl ((same r).1 k) | inr k ↦ inr k ]),
    )

pub same_behind : {K : Type 0} (xs ys zs : List K) → SameMembers ys zs → SameMembers (xs ++ ys) (xs ++ zs)
same_behind xs ys zs same r =
    let a = In-append r xs ys in
    let b = In-append r xs zs in (
      λ h. b.1 (elim (a.0 h) [ inl k ↦ inl k | inr k ↦ inr ((same r).0 k) ]),
      λ h. a.1 (elim (b.0 h) [ inl k ↦ inl k | inr k ↦ inr ((same r).1 k) ]),
    )

-- One part more, and what is left.
pub same_step : {K : Type 0} (old new part left all : List K) → SameMembers new (old ++ part)
    → SameMembers (old ++ (part ++ left)) all → SameMembers (new ++ left) all
same_step old new part left all one before =
    same_on (new ++ left) ((old ++ part) ++ left) all (same_front new (old ++ part) left one)
    (same_on ((old ++ part) ++ left) (old ++ (part ++ left)) all
    (same_itself ((old ++ part) ++ left) (old ++ (part ++ left)) (append_assoc old part left)) before)
