-- The runs of what is wanted, and of what is there.
use Rattle.mxf_views.proofs.Common.{◌≡◌, ◌↔◌, ◌⊎◌, ◌<◌, ◌≤◌, ◌++◌, ◌∷◌, [], ℕ, List, Option, None, Some, arith, filter_map}
use Rattle.mxf_views.proofs.Common.{inl, inr, map, option_map, refl, same_Some, subst, sym, ◌∙◌, ap, Bool, true, false}
use Rattle.mxf_views.proofs.Common.{AllByRecursion, all_append, all_from_In, greatest_end, In, In-append}
use Rattle.mxf_views.proofs.Common.{In-filter_map, In-map, IsCover, IsWithin, LiesIn, SameOffsets, if◌then◌else◌}
use Rattle.mxf_views.proofs.Common.{Result, Ok, Err, result_ok}
use Rattle.mxf_catalogue.specs.declared.run.Run.{Run}
use Rattle.mxf_places.specs.AtHand.{KnownParts, LiesBetween}
use Rattle.mxf_restore.specs.declared.named.NamedPlace.{NamedPlace}
use Rattle.mxf_restore.specs.declared.plan.Order.{Order}
use Rattle.mxf_units.specs.Units.{AreKnown, IsKnown, UnitsParts, location_of}
use Rattle.mxf_units.specs.declared.location.Location.{Location}
use Rattle.mxf_units.specs.declared.standing.UnitStanding.{UnitStanding}
use Rattle.mxf_units.specs.declared.standing.UnitStanding.TheVariants as standings
use Rattle.mxf_units.specs.declared.unit.EditUnit.{EditUnit}
use Rattle.mxf_units.specs.declared.unit.Extent.{Extent}
use Rattle.mxf_partial.specs.Gathered.{run_of_extent, run_of_order}
use Rattle.mxf_partial.specs.Orders.{IsOrdered}
use Rattle.mxf_partial.specs.Questions.{run_asked, run_asked_as, unnamed_run, unsure_asked, unsure_asked_as, unsure_run}
use Rattle.mxf_partial.specs.Wanted.{HasByte, HasByteOf, is_limit_named, reach_of, wanted_by, wanted_of, wanted_run}
use Rattle.mxf_partial.specs.declared.questions.UnsureRun.{UnsureRun}

-- ---- the runs of extents

pub within_extent : (e : Extent) (x : ℕ)
    → IsWithin (run_of_extent e) x ↔ (LiesBetween e.start e.end x × (x < greatest_end))
within_extent e x = by e.start e.end
  where
    by : (start : ℕ) (end : Option ℕ)
        → IsWithin (run_of_extent (record { start = start; end = end })) x
        ↔ (LiesBetween start end x × (x < greatest_end))
    by start None = grind arith
    by start (Some end) = grind (arith, same_Some)

pub ends_in_files : (e : Extent) → (run_of_extent e).end ≤ greatest_end
ends_in_files e = omega arith

-- ---- what is wanted

-- The run of an extent, if there is one.
wanted-one : (o : Option Extent) (r : Run) (x : ℕ) → option_map run_of_extent o ≡ Some r
    → IsWithin r x ↔ (HasByte o x × (x < greatest_end))
wanted-one None r x e = absurd cc
wanted-one (Some e) r x is =
    let same : run_of_extent e ≡ r = same_Some (run_of_extent e) r is in
    let w = within_extent e x in (
      λ h. w.0 (subst (λ (q : Run). IsWithin q x) (sym same) h),
      λ h. subst (λ (q : Run). IsWithin q x) same (w.1 h),
    )

has_run : (o : Option Extent) (x : ℕ) → HasByte o x → (r : Run) × (option_map run_of_extent o ≡ Some r)
has_run None x h = absurd h
has_run (Some e) x h = (run_of_extent e, refl)

run_ends : (o : Option Extent) (r : Run) → option_map run_of_extent o ≡ Some r → r.end ≤ greatest_end
run_ends None r e = absurd cc
run_ends (Some e) r is =
    subst (λ (q : Run). q.end ≤ greatest_end) (same_Some (run_of_extent e) r is) (ends_in_files e)

units-say : (named : List NamedPlace) (u : UnitsParts) (units : List EditUnit) (x : ℕ)
    → LiesIn (filter_map (wanted_run named u) units) x ↔ HasByteOf named u units x
units-say named u units x = (
  λ h.
      let s = (In-filter_map (wanted_run named u) units h.0).0 h.1 in
      let k = (wanted-one (wanted_of named u s.0) h.0 x s.2).0 h.2 in
      ((s.0, s.1, k.0), k.1),
  λ h.
      let unit = h.0.0 in
      let r = has_run (wanted_of named u unit) x h.0.2 in
      let k = (wanted-one (wanted_of named u unit) r.0 x r.1).1 (h.0.2, h.1) in
      (r.0, (In-filter_map (wanted_run named u) units r.0).1 (unit, h.0.1, r.1), k),
)

pub one-says : (e : Extent) (x : ℕ)
    → LiesIn (run_of_extent e ∷ []) x ↔ (LiesBetween e.start e.end x × (x < greatest_end))
one-says e x =
    let says = within_extent e x in (
      λ h. elim h.1 [ inl f ↦ says.0 (subst (λ (r : Run). IsWithin r x) f h.2) | inr k ↦ absurd k ],
      λ h. (run_of_extent e, inl refl, says.1 h),
    )

-- A run of an extent that isn't held back.
kept_run : (b : Bool) (e : Extent)
    → option_map run_of_extent (if b then None else Some e) ≡ (if b then None else Some (run_of_extent e))
kept_run true e = refl
kept_run false e = refl

module _ (named : List NamedPlace) where
  -- What is wanted of a unit is asked for, as its own run or as that of an unsure unit whose limit no pack names.
  abbrev IsAsked : UnitStanding → Result Location UnitStanding → Run → Type 0
  IsAsked s r run = (run_asked_as s (result_ok r) ≡ Some run)
      ⊎ ((x : UnsureRun) × (unsure_asked_as s (result_ok r) ≡ Some x) × (unnamed_run named x ≡ Some run))

  is_asked : (s : UnitStanding) (r : Result Location UnitStanding) (run : Run)
      → option_map run_of_extent (wanted_by named s r) ≡ Some run → IsAsked s r run
  is_asked s (Err t) run e = absurd cc
  is_asked standings.Missing (Ok l) run e = inl e
  is_asked standings.Part (Ok l) run e = inl e
  is_asked standings.Unsure (Ok l) run e = inr (
    unsure_run l,
    refl,
    sym (kept_run (is_limit_named named l) (record { start = l.zone.origin; end = reach_of l })) ∙ e,
  )
  is_asked standings.NotIndexed (Ok l) run e = absurd cc
  is_asked standings.Ambiguous (Ok l) run e = absurd cc
  is_asked standings.NoPartition (Ok l) run e = absurd cc
  is_asked standings.Several (Ok l) run e = absurd cc
  is_asked standings.Unknown (Ok l) run e = absurd cc
  is_asked standings.Elsewhere (Ok l) run e = absurd cc
  is_asked standings.Disputed (Ok l) run e = absurd cc
  is_asked standings.Held (Ok l) run e = absurd cc
  is_asked standings.Hand (Ok l) run e = absurd cc

  run_wanted : (s : UnitStanding) (r : Result Location UnitStanding) (run : Run)
      → run_asked_as s (result_ok r) ≡ Some run → option_map run_of_extent (wanted_by named s r) ≡ Some run
  run_wanted standings.Missing (Ok l) run e = e
  run_wanted standings.Part (Ok l) run e = e
  run_wanted standings.Missing (Err t) run e = absurd cc
  run_wanted standings.Part (Err t) run e = absurd cc
  run_wanted standings.Unsure r run e = absurd cc
  run_wanted standings.NotIndexed r run e = absurd cc
  run_wanted standings.Ambiguous r run e = absurd cc
  run_wanted standings.NoPartition r run e = absurd cc
  run_wanted standings.Several r run e = absurd cc
  run_wanted standings.Unknown r run e = absurd cc
  run_wanted standings.Elsewhere r run e = absurd cc
  run_wanted standings.Disputed r run e = absurd cc
  run_wanted standings.Held r run e = absurd cc
  run_wanted standings.Hand r run e = absurd cc

  unsure_wanted : (s : UnitStanding) (r : Result Location UnitStanding) (x : UnsureRun) (run : Run)
      → unsure_asked_as s (result_ok r) ≡ Some x → unnamed_run named x ≡ Some run
      → option_map run_of_extent (wanted_by named s r) ≡ Some run
  unsure_wanted standings.Unsure (Ok l) x run e n =
      kept_run (is_limit_named named l) (record { start = l.zone.origin; end = reach_of l })
      ∙ ap (unnamed_run named) (same_Some (unsure_run l) x e) ∙ n
  unsure_wanted standings.Unsure (Err t) x run e n = absurd cc
  unsure_wanted standings.Missing r x run e n = absurd cc
  unsure_wanted standings.Part r x run e n = absurd cc
  unsure_wanted standings.NotIndexed r x run e n = absurd cc
  unsure_wanted standings.Ambiguous r x run e n = absurd cc
  unsure_wanted standings.NoPartition r x run e n = absurd cc
  unsure_wanted standings.Several r x run e n = absurd cc
  unsure_wanted standings.Unknown r x run e n = absurd cc
  unsure_wanted standings.Elsewhere r x run e n = absurd cc
  unsure_wanted standings.Disputed r x run e n = absurd cc
  unsure_wanted standings.Held r x run e n = absurd cc
  unsure_wanted standings.Hand r x run e n = absurd cc

  module _ (u : UnitsParts) (units : List EditUnit) where
    abbrev asked_runs : List Run
    asked_runs = filter_map (run_asked u) units ++ filter_map (unnamed_run named) (filter_map (unsure_asked u) units)

    abbrev location : EditUnit → Result Location UnitStanding
    location unit = location_of u.known.notes u.index_sid unit.number

    same_runs : (r : Run) → In r asked_runs ↔ In r (filter_map (wanted_run named u) units)
    same_runs r =
        let own = In-filter_map (run_asked u) units r in
        let unsure = λ (x : UnsureRun). In-filter_map (unsure_asked u) units x in
        let unnamed = In-filter_map (unnamed_run named) (filter_map (unsure_asked u) units) r in
        let wanted = In-filter_map (wanted_run named u) units r in
        let parts = In-append r (filter_map (run_asked u) units)
        (filter_map (unnamed_run named) (filter_map (unsure_asked u) units)) in (
          λ i. elim (parts.0 i) [
            | inl k ↦
                let s = own.0 k in wanted.1 (s.0, s.1, run_wanted s.0.standing (location s.0) r s.2)
            | inr k ↦
                let n = unnamed.0 k in
                let s = (unsure n.0).0 n.1 in
                wanted.1 (s.0, s.1, unsure_wanted s.0.standing (location s.0) n.0 r s.2 n.2)
          ],
          λ i.
              let s = wanted.0 i in
              parts.1 (elim (is_asked s.0.standing (location s.0) r s.2) [
                | inl k ↦ inl (own.1 (s.0, s.1, k))
                | inr k ↦ inr (unnamed.1 (k.0, (unsure k.0).1 (s.0, s.1, k.1), k.2))
              ]),
        )

    pub asked-say : (x : ℕ) → LiesIn asked_runs x ↔ HasByteOf named u units x
    asked-say x =
        let says = units-say named u units x in (
          λ h. says.0 (h.0, (same_runs h.0).0 h.1, h.2),
          λ h. let k = says.1 h in (k.0, (same_runs k.0).1 k.1, k.2),
        )

    pub asked-end : AllByRecursion (λ (r : Run). r.end ≤ greatest_end) asked_runs
    asked-end =
        all_from_In (λ (r : Run). r.end ≤ greatest_end) asked_runs (λ r i.
        let s = (In-filter_map (wanted_run named u) units r).0 ((same_runs r).0 i) in
        run_ends (wanted_of named u s.0) r s.2)

-- ---- what is there

orders-say : (orders : List Order) (x : ℕ) → LiesIn (map run_of_order orders) x ↔ IsOrdered orders x
orders-say orders x = (
  λ h.
      let s = (In-map run_of_order orders h.0).0 h.1 in
      let k = (within_extent (record { start = s.0.start; end = s.0.end }) x).0
      (subst (λ (r : Run). IsWithin r x) s.2 h.2) in
      ((s.0, s.1, k.0), k.1),
  λ h.
      let o = h.0.0 in
      let k = (within_extent (record { start = o.start; end = o.end }) x).1 (h.0.2, h.1) in
      (run_of_order o, (In-map run_of_order orders (run_of_order o)).1 (o, h.0.1, refl), k),
)

-- The offsets of a cover and of orders, by the runs of both.
pub there-say : (known : KnownParts) (orders : List Order) (held runs offsets : List Run) → AreKnown known held
    → runs ≡ held ++ map run_of_order orders → SameOffsets offsets runs → (x : ℕ)
    → LiesIn offsets x ↔ (IsKnown known x ⊎ IsOrdered orders x)
there-say known orders held runs offsets are is same x = (
  λ h.
      let k = (same x).0 h in
      elim ((In-append k.0 held (map run_of_order orders)).0 (subst (λ l. In k.0 l) is k.1)) [
        | inl i ↦ inl ((are x).0 (k.0, i, k.2))
        | inr i ↦ inr ((orders-say orders x).0 (k.0, i, k.2))
      ],
  λ h. (same x).1 (subst (λ l. LiesIn l x) (sym is) (elim h [
    | inl k ↦
        let l = (are x).1 k in (l.0, (In-append l.0 held (map run_of_order orders)).1 (inl l.1), l.2)
    | inr k ↦
        let o = (orders-say orders x).1 k in (o.0, (In-append o.0 held (map run_of_order orders)).1 (inr o.1), o.2)
  ])),
)

pub there-ends : (orders : List Order) (held runs : List Run) → IsCover held → runs ≡ held ++ map run_of_order orders
    → AllByRecursion (λ (r : Run). r.end ≤ greatest_end) runs
there-ends orders held runs cover is =
    let P = λ (r : Run). r.end ≤ greatest_end in
    subst (AllByRecursion P) (sym is) (all_append P held (map run_of_order orders) cover.within
    (all_from_In P (map run_of_order orders) (λ r h.
    let s = (In-map run_of_order orders r).0 h in
    subst P (sym s.2) (ends_in_files (record { start = s.0.start; end = s.0.end })))))
