-- What is wanted of many units is one thing.
use Rattle.mxf_views.proofs.Common.{◌≡◌, ◌∙◌, ℕ, Option, inl, inr, subst, sym}
use Rattle.mxf_units.specs.Extents.{IsTold}
use Rattle.mxf_units.specs.Units.{UnitsParts, unit_of}
use Rattle.mxf_partial.specs.Many.{AreMany, AreToldEnds, LieEven, ManyParts}
use Rattle.mxf_partial.specs.Many.AreMany.{Even, Others, Waiting}

told_of : (u v : UnitsParts) (k m : ℕ) → u ≡ v → k ≡ m → IsTold (unit_of u.known u.index_sid k).standing
    → IsTold (unit_of v.known v.index_sid m).standing
told_of u v k m a b t =
    subst (λ n. IsTold (unit_of v.known v.index_sid n).standing) b
    (subst (λ (w : UnitsParts). IsTold (unit_of w.known w.index_sid k).standing) a t)

module _ (u : UnitsParts) (first last : ℕ) where
  ends_told : LieEven u first last → AreToldEnds u first last
  ends_told l = (
    told_of l.even.units u l.even.first first l.units l.begin l.are.first_told,
    told_of l.even.units u l.even.last last l.units l.end l.are.last_told,
  )

  pub one_many : (a b : Option ManyParts) → AreMany u first last a → AreMany u first last b → a ≡ b
  one_many a b (Waiting m n e) (Waiting k o f) = e ∙ sym f
  one_many a b (Waiting m n e) (Even k l f) = absurd (n (ends_told l))
  one_many a b (Waiting m n e) (Others (inl not) f) = absurd (not m)
  one_many a b (Waiting m n e) (Others (inr t) f) = absurd (n t.0)
  one_many a b (Even m l e) (Waiting k o f) = absurd (o (ends_told l))
  one_many a b (Even m l e) (Even k j f) = e ∙ sym f
  one_many a b (Even m l e) (Others (inl not) f) = absurd (not m)
  one_many a b (Even m l e) (Others (inr t) f) = absurd (t.1 l)
  one_many a b (Others (inl not) e) (Waiting k o f) = absurd (not k)
  one_many a b (Others (inr t) e) (Waiting k o f) = absurd (o t.0)
  one_many a b (Others (inl not) e) (Even k j f) = absurd (not k)
  one_many a b (Others (inr t) e) (Even k j f) = absurd (t.1 j)
  one_many a b (Others w e) (Others v f) = e ∙ sym f
