-- A unit has one standing.
use Rattle.mxf_views.proofs.Common.{◌≡◌, ◌≢◌, ◌∙◌, ◌⊎◌, ◌==◌, ℕ, true, false, List, Option, None, Some, Result, Ok, Err}
use Rattle.mxf_views.proofs.Common.{IsSome, refl, sym, ap, subst, inl, inr, is_some, eq-eqb, eqb-true, NoteParts}
use Rattle.mxf_views.proofs.Common.{PartitionParts, IsGiven, IsOnlyPlace, segments_of}
use Rattle.mxf_views.specs.declared.index.place.StreamPlace.{StreamPlace}
use Rattle.mxf_views.proofs.PartitionSearch.{one_partition}
use Rattle.mxf_places.specs.AtHand.{KnownParts}
use Rattle.mxf_units.specs.declared.standing.UnitStanding.{UnitStanding}
use Rattle.mxf_units.specs.declared.essence_zone.EssenceZone.{EssenceZone}
use Rattle.mxf_units.specs.declared.location.Location.{Location}
use Rattle.mxf_units.specs.EssenceZones.{zone_of}
use Rattle.mxf_units.specs.Standings.{IsLast, IsStanding, IsStandingAt, IsStandingIn, IsZone}
use Rattle.mxf_units.specs.Streams.{segments_for}
use Rattle.mxf_units.specs.Units.{end_place, extent_in, standing_in}
use Rattle.mxf_units.proofs.StandingRanges.{standing-exact}
use Rattle.mxf_units.specs.declared.standing.UnitStanding.TheVariants as standings

-- ---- an offset of a stream has one zone

module _ (notes : List NoteParts) (body_sid offset : ℕ) where
  abbrev IsIn : Result EssenceZone UnitStanding → Type 0
  IsIn = IsZone notes body_sid offset

  -- The cases, each with what it says.
  abbrev Zones : Result EssenceZone UnitStanding → Type 0
  Zones r = ((z : EssenceZone) × (r ≡ Ok z) × IsIn (Ok z))
      ⊎ (((r ≡ Err standings.NoPartition) × IsIn (Err standings.NoPartition))
      ⊎ (((r ≡ Err standings.Unknown) × IsIn (Err standings.Unknown))
      ⊎ ((r ≡ Err standings.Several) × IsIn (Err standings.Several))))

  zones : (r : Result EssenceZone UnitStanding) → IsIn r → Zones r
  zones (Ok z) h = inl (z, refl, h)
  zones (Err standings.NoPartition) h = inr (inl (refl, h))
  zones (Err standings.Unknown) h = inr (inr (inl (refl, h)))
  zones (Err standings.Several) h = inr (inr (inr (refl, h)))
  zones (Err standings.NotIndexed) h = absurd h
  zones (Err standings.Ambiguous) h = absurd h
  zones (Err standings.Elsewhere) h = absurd h
  zones (Err standings.Unsure) h = absurd h
  zones (Err standings.Disputed) h = absurd h
  zones (Err standings.Missing) h = absurd h
  zones (Err standings.Part) h = absurd h
  zones (Err standings.Held) h = absurd h
  zones (Err standings.Hand) h = absurd h

  one_of_two : (y z : EssenceZone) → IsIn (Ok y) → IsIn (Ok z) → y ≡ z
  one_of_two y z a b =
      elim (a.0.offset == b.0.offset) as (λ t. (a.0.offset == b.0.offset) ≡ t → y ≡ z) [
        | true ↦ λ t.
            let p = one_partition notes a.0 b.0 a.1.begins.partition b.1.begins.partition (eqb-true _ _ t) in
            let e : Some y ≡ Some z = sym a.2 ∙ ap (zone_of notes) p ∙ b.2 in cc (e)
        | false ↦ λ t.
            let apart : b.0 ≢ a.0 = λ p.
            let s = eq-eqb a.0.offset b.0.offset (sym (ap (λ (q : PartitionParts). q.offset) p)) in cc (s, t) in
            let e : Some z ≡ None = sym b.2 ∙ a.3 b.0 b.1 apart in absurd (cc (e))
      ] refl

  none_some : (o : Option EssenceZone) → o ≡ None → IsSome o → ⊥
  none_some o e s = let t : false ≡ true = sym (ap is_some e) ∙ s in cc (t)

  zone_unknown : (z : EssenceZone) → IsIn (Ok z) → IsIn (Err standings.Unknown) → ⊥
  zone_unknown z a b =
      let e : Some z ≡ None = sym a.2 ∙ ap (zone_of notes) (b.3 a.0 a.1) ∙ b.2 in cc (e)

  zone_several : (z : EssenceZone) → IsIn (Ok z) → IsIn (Err standings.Several) → ⊥
  zone_several z a b =
      let other : (q : PartitionParts) → IsLast notes body_sid offset q → IsSome (zone_of notes q) → (q ≢ a.0) → ⊥ =
      λ q last some apart. none_some (zone_of notes q) (a.3 q last apart) some in
      elim b.5 [
        | inl s ↦ other b.0 b.2 s.0 (λ e. other b.1 b.3 s.1 (λ f. b.4 (e ∙ sym f)))
        | inr none ↦ (let e : Some z ≡ None = sym a.2 ∙ none a.0 a.1 in cc (e))
      ]

  unknown_several : IsIn (Err standings.Unknown) → IsIn (Err standings.Several) → ⊥
  unknown_several a b = b.4 (a.3 b.0 b.2 ∙ sym (a.3 b.1 b.3))

  both_zones : (r q : Result EssenceZone UnitStanding) → Zones r → Zones q → r ≡ q
  both_zones r q (inl a) (inl b) = a.1 ∙ ap (λ (z : EssenceZone). Ok z) (one_of_two a.0 b.0 a.2 b.2) ∙ sym b.1
  both_zones r q (inl a) (inr (inl b)) = absurd (b.1 a.2.0 a.2.1.begins)
  both_zones r q (inl a) (inr (inr (inl b))) = absurd (zone_unknown a.0 a.2 b.1)
  both_zones r q (inl a) (inr (inr (inr b))) = absurd (zone_several a.0 a.2 b.1)
  both_zones r q (inr (inl a)) (inl b) = absurd (a.1 b.2.0 b.2.1.begins)
  both_zones r q (inr (inl a)) (inr (inl b)) = a.0 ∙ sym b.0
  both_zones r q (inr (inl a)) (inr (inr (inl b))) = absurd (a.1 b.1.0 b.1.1.begins)
  both_zones r q (inr (inl a)) (inr (inr (inr b))) = absurd (a.1 b.1.0 b.1.2.begins)
  both_zones r q (inr (inr (inl a))) (inl b) = absurd (zone_unknown b.0 b.2 a.1)
  both_zones r q (inr (inr (inl a))) (inr (inl b)) = absurd (b.1 a.1.0 a.1.1.begins)
  both_zones r q (inr (inr (inl a))) (inr (inr (inl b))) = a.0 ∙ sym b.0
  both_zones r q (inr (inr (inl a))) (inr (inr (inr b))) = absurd (unknown_several a.1 b.1)
  both_zones r q (inr (inr (inr a))) (inl b) = absurd (zone_several b.0 b.2 a.1)
  both_zones r q (inr (inr (inr a))) (inr (inl b)) = absurd (b.1 a.1.0 a.1.2.begins)
  both_zones r q (inr (inr (inr a))) (inr (inr (inl b))) = absurd (unknown_several b.1 a.1)
  both_zones r q (inr (inr (inr a))) (inr (inr (inr b))) = a.0 ∙ sym b.0

  pub one-zone : (r q : Result EssenceZone UnitStanding) → IsIn r → IsIn q → r ≡ q
  one-zone r q a b = both_zones r q (zones r a) (zones q b)

-- ---- a place has one standing

module _ (known : KnownParts) (index_sid unit body_sid offset : ℕ) where
  abbrev located : EssenceZone → Location
  located zone = record {
    zone = zone;
    extent = extent_in zone offset (end_place (segments_for known.notes index_sid) zone unit body_sid offset);
  }

  one_in : (y z : EssenceZone) (v w : UnitStanding) → y ≡ z
      → IsStandingIn known y (located y).extent v → IsStandingIn known z (located z).extent w → v ≡ w
  one_in y z v w e a b =
      sym (standing-exact known (located y) v a) ∙ ap (λ (x : EssenceZone). standing_in known (located x)) e
      ∙ standing-exact known (located z) w b

  one-at : (v w : UnitStanding) → IsStandingAt known index_sid unit body_sid offset v
      → IsStandingAt known index_sid unit body_sid offset w → v ≡ w
  one-at v w (inl a) (inl b) =
      let e = one-zone known.notes body_sid offset (Err v) (Err w) a b in cc (e)
  one-at v w (inl a) (inr b) =
      let e = one-zone known.notes body_sid offset (Err v) (Ok b.0) a b.1 in absurd (cc (e))
  one-at v w (inr a) (inl b) =
      let e = one-zone known.notes body_sid offset (Ok a.0) (Err w) a.1 b in absurd (cc (e))
  one-at v w (inr a) (inr b) =
      let e = one-zone known.notes body_sid offset (Ok a.0) (Ok b.0) a.1 b.1 in
      let same : a.0 ≡ b.0 = cc (e) in one_in a.0 b.0 v w same a.2 b.2

-- ---- a unit has one standing

module _ (known : KnownParts) (index_sid unit : ℕ) where
  abbrev NoneGiven : Type 0
  NoneGiven = (p : StreamPlace) → ¬ IsGiven (segments_of known.notes) index_sid unit p

  abbrev TwoGiven : Type 0
  TwoGiven = (p : StreamPlace) × (q : StreamPlace) × IsGiven (segments_of known.notes) index_sid unit p
      × IsGiven (segments_of known.notes) index_sid unit q × (p ≢ q)

  abbrev AtPlace : UnitStanding → Type 0
  AtPlace w = (body_sid : ℕ) × (offset : ℕ) × IsOnlyPlace (segments_of known.notes) index_sid unit body_sid offset
      × IsStandingAt known index_sid unit body_sid offset w

  abbrev Standings : UnitStanding → Type 0
  Standings w = ((w ≡ standings.NotIndexed) × NoneGiven) ⊎ (((w ≡ standings.Ambiguous) × TwoGiven) ⊎ AtPlace w)

  stands : (w : UnitStanding) → IsStanding known index_sid unit w → Standings w
  stands standings.NotIndexed h = inl (refl, h)
  stands standings.Ambiguous h = inr (inl (refl, h))
  stands standings.NoPartition h = inr (inr h)
  stands standings.Several h = inr (inr h)
  stands standings.Unknown h = inr (inr h)
  stands standings.Elsewhere h = inr (inr h)
  stands standings.Unsure h = inr (inr h)
  stands standings.Disputed h = inr (inr h)
  stands standings.Missing h = inr (inr h)
  stands standings.Part h = inr (inr h)
  stands standings.Held h = inr (inr h)
  stands standings.Hand h = inr (inr h)

  none_at : (w : UnitStanding) → NoneGiven → AtPlace w → ⊥
  none_at w none s = none record { body_sid = s.0; offset = s.1 } s.2.given

  two_at : (w : UnitStanding) → TwoGiven → AtPlace w → ⊥
  two_at w two s =
      let p = s.2.only two.0 two.2 in
      let q = s.2.only two.1 two.3 in
      let body = p.0 ∙ sym q.0 in
      let offset = p.1 ∙ sym q.1 in two.4 (λ i. record { body_sid = body i; offset = offset i })

  both_at : (v w : UnitStanding) → AtPlace v → AtPlace w → v ≡ w
  both_at v w s t =
      let same = t.2.only record { body_sid = s.0; offset = s.1 } s.2.given in
      one-at known index_sid unit t.0 t.1 v w (subst (λ x. IsStandingAt known index_sid unit t.0 x v) same.1
      (subst (λ x. IsStandingAt known index_sid unit x s.1 v) same.0 s.3)) t.3

  both : (v w : UnitStanding) → Standings v → Standings w → v ≡ w
  both v w (inl s) (inl t) = s.0 ∙ sym t.0
  both v w (inl s) (inr (inl t)) = absurd (s.1 t.1.0 t.1.2)
  both v w (inl s) (inr (inr t)) = absurd (none_at w s.1 t)
  both v w (inr (inl s)) (inl t) = absurd (t.1 s.1.0 s.1.2)
  both v w (inr (inl s)) (inr (inl t)) = s.0 ∙ sym t.0
  both v w (inr (inl s)) (inr (inr t)) = absurd (two_at w s.1 t)
  both v w (inr (inr s)) (inl t) = absurd (none_at v t.1 s)
  both v w (inr (inr s)) (inr (inl t)) = absurd (two_at v t.1 s)
  both v w (inr (inr s)) (inr (inr t)) = both_at v w s t

  pub one-standing : (a b : UnitStanding) → IsStanding known index_sid unit a → IsStanding known index_sid unit b
      → a ≡ b
  one-standing a b s t = both a b (stands a s) (stands b t)
