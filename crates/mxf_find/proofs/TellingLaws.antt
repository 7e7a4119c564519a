-- Notes that tell: one at most is told by another, and votes by it.
use Rattle.mxf_klv.proofs.Common.{◌≡◌, ◌==◌, ◌∙◌, Bool, true, List, [], ◌∷◌, IsTrue, Option, None, Some, refl, sym, ap}
use Rattle.mxf_klv.proofs.Common.{subst, inl, inr, arith, eq-eqb, eqb-true, filter, length, IsTotalOrder, tied_itself}
use Rattle.mxf_klv.proofs.Common.{NoteParts, note_cmp, note_total, note_cmp-IsAntisymmetric, In, IsRising, SameMembers}
use Rattle.std.proofs.Common.{Ordering, Less}
use Rattle.mxf_klv.proofs.Lists.{In-filter, filter_alike}
use Rattle.mxf_klv.proofs.Tests.{same_bool}
use Rattle.mxf_catalogue.specs.Content.{IsContent}
use Rattle.mxf_catalogue.specs.Disputes.{is_same_note}
use Rattle.mxf_catalogue.specs.ReducedLaws.{is_same-Decides, rising-filter}
use Rattle.mxf_find.specs.PacketOrder.{packet_total}
use Rattle.mxf_find.specs.Packets.{AreByPacket, packet_cmp, sole}

-- ---- the only one of a list

lone : {K : Type 0} (xs : List K) (a b : K) → length xs ≡ 1 → In a xs → In b xs → a ≡ b
lone [] a b e i j = absurd i
lone (x ∷ []) a b e (inl p) (inl q) = p ∙ sym q
lone (x ∷ []) a b e (inl p) (inr j) = absurd j
lone (x ∷ []) a b e (inr i) j = absurd i
lone (x ∷ y ∷ xs) a b e i j = absurd (omega (arith, e))

sole-some : {K : Type 0} (xs : List K) (x : K) → sole xs ≡ Some x → xs ≡ x ∷ []
sole-some [] x e = cc
sole-some (y ∷ []) x e = cc
sole-some (y ∷ z ∷ xs) x e = cc

sole-none : {K : Type 0} (xs : List K) → sole xs ≡ None → length xs ≡ 1 → ⊥
sole-none [] e l = cc
sole-none (y ∷ []) e l = cc
sole-none (y ∷ z ∷ xs) e l = omega (arith, l)

two_apart : {K : Type 0} {R : K → K → Ordering} (o : IsTotalOrder R) (x y z : K) (xs : List K)
    → IsRising R (y ∷ z ∷ xs) → y ≡ x → z ≡ x → ⊥
two_apart {R = R} o x y z xs r e f =
    let l : R y z ≡ Less = r.0.0 in
    let m : R x x ≡ Less = sym (ap (λ a. R a z) e ∙ ap (R x) f) ∙ l in
    let t = tied_itself o x in cc (t, m)

-- Lists that rise, each in an order, and have the same members have the same only one.
same_sole : {K : Type 0} {R S : K → K → Ordering} (o : IsTotalOrder R) (p : IsTotalOrder S) (xs ys : List K)
    → IsRising R xs → IsRising S ys → SameMembers xs ys → sole xs ≡ sole ys
same_sole o p [] [] r s m = refl
same_sole o p [] (y ∷ ys) r s m = absurd ((m y).1 (inl refl))
same_sole o p (x ∷ xs) [] r s m = absurd ((m x).0 (inl refl))
same_sole o p (x ∷ []) (y ∷ []) r s m = elim ((m x).0 (inl refl)) [ inl e ↦ ap Some e | inr i ↦ absurd i ]
same_sole o p (x ∷ []) (y ∷ z ∷ ys) r s m =
    absurd (two_apart p x y z ys s (in_one y ((m y).1 (inl refl))) (in_one z ((m z).1 (inr (inl refl)))))
  where
    in_one : (w : _) → In w (x ∷ []) → w ≡ x
    in_one w (inl e) = e
    in_one w (inr i) = absurd i
same_sole o p (x ∷ w ∷ xs) (y ∷ []) r s m =
    absurd (two_apart o y x w xs r (in_one x ((m x).0 (inl refl))) (in_one w ((m w).0 (inr (inl refl)))))
  where
    in_one : (z : _) → In z (y ∷ []) → z ≡ y
    in_one z (inl e) = e
    in_one z (inr i) = absurd i
same_sole o p (x ∷ w ∷ xs) (y ∷ z ∷ ys) r s m = refl

-- ---- of notes that are the same

abbrev pub same : (NoteParts → NoteParts) → NoteParts → NoteParts → Bool
same key m n = is_same_note (key m) (key n)

pub same_says : (key : NoteParts → NoteParts) (m n : NoteParts) → IsTrue (same key m n) → key m ≡ key n
same_says key m n t = (is_same-Decides note_total note_cmp-IsAntisymmetric (key m) (key n)).0 t

pub says_same : (key : NoteParts → NoteParts) (m n : NoteParts) → key m ≡ key n → IsTrue (same key m n)
says_same key m n e = (is_same-Decides note_total note_cmp-IsAntisymmetric (key m) (key n)).1 e

module _ (key : NoteParts → NoteParts) (notes : List NoteParts) where
  abbrev pub alike : NoteParts → List NoteParts
  alike n = filter (same key n) notes

  -- Notes that are the same have the same ones beside them.
  pub same_alike : (m n : NoteParts) → key m ≡ key n → alike m ≡ alike n
  same_alike m n e = filter_alike (same key m) (same key n) notes (λ x i. same_bool (same key m x) (same key n x)
      (λ t. says_same key n x (sym e ∙ same_says key m x t)) (λ t. says_same key m x (e ∙ same_says key n x t)))

  -- Where one is alone, another that is the same is it.
  pub alone : (m n : NoteParts) → (length (alike n) == 1) ≡ true → In m notes → In n notes → key m ≡ key n → m ≡ n
  alone m n e i j k = lone (alike n) m n (eqb-true (length (alike n)) 1 e)
      ((In-filter (same key n) notes m).1 (i, says_same key n m (sym k)))
      ((In-filter (same key n) notes n).1 (j, says_same key n n refl))

  module _ (packets : List NoteParts) (are : AreByPacket notes packets) (content : IsContent notes) (p : NoteParts)
      (only : Option NoteParts) (found : only ≡ sole (filter (same key p) packets)) where
    there : only ≡ sole (alike p)
    there = found ∙ same_sole packet_total note_total (filter (same key p) packets) (alike p)
        (rising-filter packet_cmp (same key p) packets are.rising) (rising-filter note_cmp (same key p) notes content)
        (λ x. (
          λ i. let s = (In-filter (same key p) packets x).0 i in
              (In-filter (same key p) notes x).1 ((are.members x).0 s.0, s.1),
          λ i. let s = (In-filter (same key p) notes x).0 i in
              (In-filter (same key p) packets x).1 ((are.members x).1 s.0, s.1),
        ))

    -- The only one is one of the notes, is the same, and is alone.
    pub one_held : (n : NoteParts) → only ≡ Some n → In n notes
    one_held n e =
        ((In-filter (same key p) notes n).0 (subst (In n) (sym (sole-some (alike p) n (sym there ∙ e))) (inl refl))).0

    pub one_same : (n : NoteParts) → only ≡ Some n → IsTrue (same key p n)
    one_same n e =
        ((In-filter (same key p) notes n).0 (subst (In n) (sym (sole-some (alike p) n (sym there ∙ e))) (inl refl))).1

    pub one_alone : (n : NoteParts) → only ≡ Some n → (length (alike n) == 1) ≡ true
    one_alone n e = eq-eqb (length (alike n)) 1 (ap length
        (same_alike n p (sym (same_says key p n (one_same n e))) ∙ sole-some (alike p) n (sym there ∙ e)))

    -- One that is alone and the same is the only one; so if there is none, there is none.
    pub one_is : (m n : NoteParts) → only ≡ Some n → In m notes → IsTrue (same key p m) → m ≡ n
    one_is m n e i t =
        elim (subst (In m) (sole-some (alike p) n (sym there ∙ e)) ((In-filter (same key p) notes m).1 (i, t))) [
          | inl q ↦ q
          | inr j ↦ absurd j
        ]

    pub none_alone : (m : NoteParts) → only ≡ None → IsTrue (same key p m) → (length (alike m) == 1) ≡ true → ⊥
    none_alone m e t l = sole-none (alike p) (sym there ∙ e)
        (ap length (same_alike p m (same_says key p m t)) ∙ eqb-true (length (alike m)) 1 l)
