-- How bytes stand, by the tests and by the causes.
use Rattle.std.proofs.Common.{◌≡◌, ◌∙◌, ◌<◌, ◌≤◌, ◌&&◌, ◌⊎◌, ℕ, Bool, true, false, not, Option, None, Some, List, refl}
use Rattle.std.proofs.Common.{ap, inl, inr, is_some, IsSome, nat_le, nat_lt, if◌then◌else◌, ltb-true, lt-ltb}
use Rattle.std.proofs.lemmas.Bool.{and_from, and_parts, false_from_ne_true, le-leb, leb-true}
use Rattle.std.specs.Option.{option_map_or}
use Rattle.mxf_places.specs.AtHand.{KnownParts}
use Rattle.mxf_klv.specs.Parts.{NoteParts}
use Rattle.mxf_klv.proofs.Tests.{either}
use Rattle.mxf_units.specs.declared.standing.UnitStanding.{UnitStanding}
use Rattle.mxf_units.specs.declared.standing.UnitStanding.TheVariants as standings
use Rattle.mxf_units.specs.declared.essence_zone.EssenceZone.{EssenceZone}
use Rattle.mxf_units.specs.declared.location.Location.{Location}
use Rattle.mxf_units.specs.declared.unit.Extent.{Extent}
use Rattle.mxf_units.specs.Units.{are_all_held, are_all_known, asked_end, ends_behind, is_any_disputed, is_any_known}
use Rattle.mxf_units.specs.Units.{is_beside_essence, lies_elsewhere, standing_in}
use Rattle.mxf_units.specs.Standings.{AllHeld, AllKnown, AnyDisputed, AnyKnown, GoesBehind, IsStandingIn, LiesElsewhere}
use Rattle.mxf_units.specs.Standings.{LiesInside}
use Rattle.mxf_units.proofs.BesideLaws.{beside-says}
use Rattle.mxf_units.proofs.RangeLaws.{all_held-says, all_known-says, any_disputed-says, any_known-says, either-says}

abbrev goes : EssenceZone → Extent → Bool
goes zone e = option_map_or (ends_behind e) zone.limit false

ends-says : (e : Extent) (limit : ℕ) → ends_behind e limit ≡ true
    → (limit ≤ e.start) ⊎ ((end : ℕ) × (e.end ≡ Some end) × (limit < end))
ends-says e limit h =
    elim (either-says (nat_le limit e.start) (option_map_or (λ x. nat_lt limit x) e.end false) h) [
      | inl a ↦ inl (leb-true _ _ a)
      | inr b ↦ inr (elim e.end as (λ (o : Option ℕ). option_map_or (λ x. nat_lt limit x) o false ≡ true
          → (end : ℕ) × (o ≡ Some end) × (limit < end)) [
            | None ↦ λ f. absurd cc
            | Some x ↦ λ f. (x, refl, ltb-true _ _ f)
          ] b)
    ]

says-ends : (e : Extent) (limit : ℕ) → (limit ≤ e.start) ⊎ ((end : ℕ) × (e.end ≡ Some end) × (limit < end))
    → ends_behind e limit ≡ true
says-ends e limit (inl l) = either _ _ (inl (le-leb _ _ l))
says-ends e limit (inr s) = either (nat_le limit e.start) (option_map_or (λ x. nat_lt limit x) e.end false)
    (inr (ap (λ (o : Option ℕ). option_map_or (λ x. nat_lt limit x) o false) s.1 ∙ lt-ltb _ _ s.2))

goes-says : (zone : EssenceZone) (e : Extent) → goes zone e ≡ true → GoesBehind zone e
goes-says zone e h = elim zone.limit as (λ (o : Option ℕ). zone.limit ≡ o → option_map_or (ends_behind e) o false ≡ true
    → GoesBehind zone e) [
      | None ↦ λ f g. absurd cc
      | Some l ↦ λ f g. record { limit = l; limit_is = f; behind = ends-says e l g }
    ] refl h

says-goes : (zone : EssenceZone) (e : Extent) → GoesBehind zone e → goes zone e ≡ true
says-goes zone e g =
    ap (λ (o : Option ℕ). option_map_or (ends_behind e) o false) g.limit_is ∙ says-ends e g.limit g.behind

-- The bytes lie elsewhere.
module _ (notes : List NoteParts) (l : Location) where
  elsewhere-says : lies_elsewhere notes l ≡ true → LiesElsewhere notes l.zone l.extent
  elsewhere-says h =
      elim (either-says (goes l.zone l.extent) (is_beside_essence notes l.extent.start) h) [
        | inl a ↦ inl (goes-says l.zone l.extent a)
        | inr b ↦ inr ((beside-says notes l.extent.start).0 b)
      ]

  says-elsewhere : LiesElsewhere notes l.zone l.extent → lies_elsewhere notes l ≡ true
  says-elsewhere (inl g) = either _ _ (inl (says-goes l.zone l.extent g))
  says-elsewhere (inr b) = either (goes l.zone l.extent) (is_beside_essence notes l.extent.start)
      (inr ((beside-says notes l.extent.start).1 b))

denied : (P : Type 0) (b : Bool) → (P → b ≡ true) → b ≡ false → ¬ P
denied P b f e p = let t = f p in cc (t, e)

unsure : (a b : Bool) → (not a && not b) ≡ true → (a ≡ false) × (b ≡ false)
unsure true b e = absurd cc
unsure false true e = absurd cc
unsure false false e = (refl, refl)

sure : (a b : Bool) → (not a && not b) ≡ false → (a ≡ true) ⊎ (b ≡ true)
sure true b e = inl refl
sure false true e = inr refl
sure false false e = absurd cc

part : (o : Option ℕ) (b : Bool) → (is_some o && b) ≡ false → (o ≡ None) ⊎ (b ≡ false)
part None b e = inl refl
part (Some x) b e = inr e

module _ (known : KnownParts) (l : Location) where
  abbrev zone : EssenceZone
  zone = l.zone

  abbrev e : Extent
  e = l.extent

  abbrev end : ℕ
  end = asked_end l.extent

  abbrev elsewhere : Bool
  elsewhere = lies_elsewhere known.notes l

  abbrev IsElsewhere : Type 0
  IsElsewhere = LiesElsewhere known.notes zone e

  abbrev origin_held : Bool
  origin_held = are_all_held known.notes zone.origin end

  abbrev unsure_test : Bool
  unsure_test = not zone.is_sure && not origin_held

  abbrev disputed_test : Bool
  disputed_test = is_any_disputed known.notes e.start end

  abbrev any_test : Bool
  any_test = is_any_known known e.start end

  abbrev held_test : Bool
  held_test = is_some e.end && are_all_held known.notes e.start end

  abbrev hand_test : Bool
  hand_test = is_some e.end && are_all_known known e.start end

  abbrev cascade : Bool → Bool → Bool → Bool → Bool → Bool → UnitStanding
  cascade a b c d k m = if a then standings.Elsewhere else (if b then standings.Unsure
      else (if c then standings.Disputed
      else (if not d then standings.Missing
      else (if k then standings.Held else (if m then standings.Hand else standings.Part)))))

  -- ---- what holds where a test passes or fails

  inside : elsewhere ≡ false → unsure_test ≡ false → LiesInside known.notes zone e
  inside f g = record {
    within = denied IsElsewhere elsewhere (says-elsewhere known.notes l) f;
    sure = elim (sure zone.is_sure origin_held g) [
      | inl s ↦ inl s
      | inr s ↦ inr ((all_held-says known.notes zone.origin end).0 s)
    ];
  }

  clear : disputed_test ≡ false → ¬ AnyDisputed known.notes e.start end
  clear h = denied (AnyDisputed known.notes e.start end) disputed_test (any_disputed-says known.notes e.start end).1 h

  not_held : is_some e.end ≡ true → held_test ≡ false → ¬ AllHeld known.notes e.start end
  not_held some k all =
      let t = and_from (is_some e.end) (are_all_held known.notes e.start end) some
      ((all_held-says known.notes e.start end).1 all) in cc (t, k)

  by_tests : (a b c d k m : Bool) → elsewhere ≡ a → unsure_test ≡ b → disputed_test ≡ c → any_test ≡ d
      → held_test ≡ k → hand_test ≡ m → IsStandingIn known zone e (cascade a b c d k m)
  by_tests true b c d k m f g h j n o = elsewhere-says known.notes l f
  by_tests false true c d k m f g h j n o =
      let u = unsure zone.is_sure origin_held g in (
        denied IsElsewhere elsewhere (says-elsewhere known.notes l) f,
        u.0,
        denied (AllHeld known.notes zone.origin end) origin_held (all_held-says known.notes zone.origin end).1 u.1,
      )
  by_tests false false true d k m f g h j n o = (inside f g, (any_disputed-says known.notes e.start end).0 h)
  by_tests false false false false k m f g h j n o = (
    inside f g,
    clear h,
    denied (AnyKnown known e.start end) any_test (any_known-says known e.start end).1 j,
  )
  by_tests false false false true true m f g h j n o =
      let s = and_parts (is_some e.end) (are_all_held known.notes e.start end) n in (
        inside f g,
        clear h,
        (any_known-says known e.start end).0 j,
        s.0,
        (all_held-says known.notes e.start end).0 s.1,
      )
  by_tests false false false true false true f g h j n o =
      let s = and_parts (is_some e.end) (are_all_known known e.start end) o in (
        inside f g,
        clear h,
        (any_known-says known e.start end).0 j,
        s.0,
        (all_known-says known e.start end).0 s.1,
        not_held s.0 n,
      )
  by_tests false false false true false false f g h j n o = (
    inside f g,
    clear h,
    (any_known-says known e.start end).0 j,
    elim (part e.end (are_all_known known e.start end) o) [
      | inl none ↦ inl none
      | inr some ↦ inr (denied (AllKnown known e.start end) (are_all_known known e.start end)
          (all_known-says known e.start end).1 some)
    ],
  )

  pub standing-says : IsStandingIn known zone e (standing_in known l)
  standing-says =
      by_tests (elsewhere) unsure_test disputed_test any_test held_test hand_test refl refl refl refl refl refl

  -- ---- and back

  within_is : ¬ IsElsewhere → elsewhere ≡ false
  within_is n = false_from_ne_true (elsewhere) (λ t. n (elsewhere-says known.notes l t))

  inside_is : LiesInside known.notes zone e → unsure_test ≡ false
  inside_is i = elim i.sure [
    | inl s ↦ ap (λ b. not b && not origin_held) s
    | inr a ↦ false_from_ne_true unsure_test (λ t.
        let u = unsure zone.is_sure origin_held t in
        let h = (all_held-says known.notes zone.origin end).1 a in
        let f = u.1 in cc (h, f))
  ]

  clear_is : ¬ AnyDisputed known.notes e.start end → disputed_test ≡ false
  clear_is n = false_from_ne_true disputed_test (λ t. n ((any_disputed-says known.notes e.start end).0 t))

  none_of : (o : Option ℕ) (b : Bool) → ((o ≡ None) ⊎ (b ≡ true → ⊥)) → (is_some o && b) ≡ false
  none_of o b (inl n) = ap (λ x. is_some x && b) n
  none_of o b (inr f) = false_from_ne_true (is_some o && b) (λ t. f (and_parts (is_some o) b t).1)

  all_held : IsSome e.end → AllHeld known.notes e.start end → held_test ≡ true
  all_held some all = and_from (is_some e.end) (are_all_held known.notes e.start end) some
      ((all_held-says known.notes e.start end).1 all)

  not_all_held : ¬ AllHeld known.notes e.start end → held_test ≡ false
  not_all_held n = none_of e.end (are_all_held known.notes e.start end) (inr (λ t.
      n ((all_held-says known.notes e.start end).0 t)))

  -- Where not all is known, not all is held.
  held_known : AllHeld known.notes e.start end → AllKnown known e.start end
  held_known all x low high = inl (all x low high)

  pub standing-exact : (w : UnitStanding) → IsStandingIn known zone e w → standing_in known l ≡ w
  standing-exact standings.Elsewhere h =
      ap (λ a. cascade a unsure_test disputed_test any_test held_test hand_test) (says-elsewhere known.notes l h)
  standing-exact standings.Unsure h =
      let a = within_is h.0 in
      let held = false_from_ne_true origin_held (λ t. h.2 ((all_held-says known.notes zone.origin end).0 t)) in
      let sure = h.1 in
      λ i. cascade (a i) (not (sure i) && not (held i)) disputed_test any_test held_test hand_test
  standing-exact standings.Disputed h =
      let a = within_is h.0.within in
      let b = inside_is h.0 in
      let c : disputed_test ≡ true = (any_disputed-says known.notes e.start end).1 h.1 in
      λ i. cascade (a i) (b i) (c i) any_test held_test hand_test
  standing-exact standings.Missing h =
      let a = within_is h.0.within in
      let b = inside_is h.0 in
      let c = clear_is h.1 in
      let d = false_from_ne_true any_test (λ t. h.2 ((any_known-says known e.start end).0 t)) in
      λ i. cascade (a i) (b i) (c i) (d i) held_test hand_test
  standing-exact standings.Part h =
      let a = within_is h.0.within in
      let b = inside_is h.0 in
      let c = clear_is h.1 in
      let d : any_test ≡ true = (any_known-says known e.start end).1 h.2 in
      let unknown : (e.end ≡ None) ⊎ (are_all_known known e.start end ≡ true → ⊥) = elim h.3 [
        | inl n ↦ inl n
        | inr n ↦ inr (λ t. n ((all_known-says known e.start end).0 t))
      ] in
      let m = none_of e.end (are_all_known known e.start end) unknown in
      let k : held_test ≡ false = elim h.3 [
        | inl n ↦ none_of e.end (are_all_held known.notes e.start end) (inl n)
        | inr n ↦ not_all_held (λ all. n (held_known all))
      ] in
      λ i. cascade (a i) (b i) (c i) (d i) (k i) (m i)
  standing-exact standings.Held h =
      let a = within_is h.0.within in
      let b = inside_is h.0 in
      let c = clear_is h.1 in
      let d : any_test ≡ true = (any_known-says known e.start end).1 h.2 in
      let k = all_held h.3 h.4 in λ i. cascade (a i) (b i) (c i) (d i) (k i) hand_test
  standing-exact standings.Hand h =
      let a = within_is h.0.within in
      let b = inside_is h.0 in
      let c = clear_is h.1 in
      let d : any_test ≡ true = (any_known-says known e.start end).1 h.2 in
      let k = not_all_held h.5 in
      let m : hand_test ≡ true =
      and_from (is_some e.end) (are_all_known known e.start end) h.3 ((all_known-says known e.start end).1 h.4) in
      λ i. cascade (a i) (b i) (c i) (d i) (k i) (m i)
  standing-exact standings.NotIndexed h = absurd h
  standing-exact standings.Ambiguous h = absurd h
  standing-exact standings.NoPartition h = absurd h
  standing-exact standings.Several h = absurd h
  standing-exact standings.Unknown h = absurd h
