-- What units ask for, as lists and by definition.
use Rattle.mxf_views.proofs.Common.{◌≡◌, ◌↔◌, ◌⊎◌, ◌∙◌, ◌++◌, ◌+◌, ◌<◌, ◌==◌, ℕ, List, [], ◌∷◌, Some, ap}
use Rattle.mxf_views.proofs.Common.{arith, inl, inr, Err, Ok, Result, true, filter_map, map, refl, subst, sym, zero}
use Rattle.mxf_views.proofs.Common.{suc, same_Some, range_with_len, result_ok, ◌-◌, In, IsRising}
use Rattle.mxf_views.proofs.Common.{AllByRecursion, In-append, In-filter_map, In-map, all_from_In, find-only, found-In}
use Rattle.mxf_views.proofs.Common.{one_by_key, RiseBy}
use Rattle.mxf_views.proofs.KeyedLists.{rise_by}
use Rattle.mxf_klv.proofs.RisingBy.{IsRisingFrom, at_or_above, rises-filter_map}
use Rattle.mxf_views.specs.declared.index.place.StreamPlace.{StreamPlace}
use Rattle.std.proofs.Common.{nat_cmp}
use Rattle.std.proofs.lemmas.Bool.{eq-eqb, eqb-true}
use Rattle.std.specs.Option.{option_and_then}
use Rattle.mxf_restore.specs.declared.named.NamedPlace.{NamedPlace}
use Rattle.mxf_units.specs.Streams.{place_of, segments_for}
use Rattle.mxf_units.specs.Ranges.{needed_from, units_from, units_with_keys}
use Rattle.mxf_units.specs.Units.{UnitsParts, unit_of}
use Rattle.mxf_units.specs.declared.essence_zone.part.StreamPart.{StreamPart}
use Rattle.mxf_units.specs.declared.location.Location.{Location}
use Rattle.mxf_units.specs.declared.standing.UnitStanding.{UnitStanding}
use Rattle.mxf_units.specs.declared.unit.EditUnit.{EditUnit}
use Rattle.mxf_partial.specs.Between.{IsOneOf16, LiesBetweenSegments, MayIndex, MayIndexOneOf}
use Rattle.mxf_partial.specs.Asks.{IsAskedByIndex, IsAskedByUnit, NeedsLimit, NeedsPartition, NeedsWay}
use Rattle.mxf_partial.specs.Named.{AreNamed, IsNamedBy, named_at}
use Rattle.mxf_partial.specs.Near.{MayLieAt}
use Rattle.mxf_partial.specs.Questions.{limit_asked, number_unindexed, partition_asked, way_asked}
use Rattle.mxf_partial.specs.Wanted.{IsOwn, WantedParts, notes_of, wanted_units}
use Rattle.mxf_partial.specs.Ways.{LeadsTo}
use Rattle.mxf_partial.proofs.ChosenLaws.{keys_rise, numbers_rise}
use Rattle.mxf_units.specs.declared.standing.UnitStanding.TheVariants as standings

from_ok : {T E : Type 0} (r : Result T E) (x : T) → result_ok r ≡ Some x → r ≡ Ok x
from_ok (Ok y) x e = ap Ok (same_Some y x e)
from_ok (Err f) x e = absurd cc

-- ---- which units need a partition

partition_says : (u : UnitsParts) (unit : EditUnit) (p : StreamPlace) → partition_asked u unit ≡ Some p
    → ((unit.standing ≡ standings.NoPartition) ⊎ (unit.standing ≡ standings.Elsewhere))
    × (place_of (segments_for u.known.notes u.index_sid) unit.number ≡ Ok p)
partition_says u unit p e = grind (arith, from_ok)

says_partition : (u : UnitsParts) (unit : EditUnit) (p : StreamPlace)
    → ((unit.standing ≡ standings.NoPartition) ⊎ (unit.standing ≡ standings.Elsewhere))
    → place_of (segments_for u.known.notes u.index_sid) unit.number ≡ Ok p → partition_asked u unit ≡ Some p
says_partition u unit p (inl s) e =
    ap (λ t. Rattle.mxf_partial.specs.Questions.partition_asked_as t u unit) s ∙ ap result_ok e
says_partition u unit p (inr s) e =
    ap (λ t. Rattle.mxf_partial.specs.Questions.partition_asked_as t u unit) s ∙ ap result_ok e

pub partitions_are : (w : WantedParts) (p : StreamPlace)
    → In p (filter_map (partition_asked w.units) (wanted_units w)) ↔ NeedsPartition w p
partitions_are w p =
    let members = In-filter_map (partition_asked w.units) (wanted_units w) p in (
      λ i.
          let s = members.0 i in
          let so = partition_says w.units s.0 p s.2 in
          record { unit = s.0; wanted = s.1; standing = so.0; place = so.1 },
      λ n. members.1 (n.unit, n.wanted, says_partition w.units n.unit p n.standing n.place),
    )

-- ---- which need a way

way_says : (u : UnitsParts) (unit : EditUnit) (p : StreamPlace) → way_asked u unit ≡ Some p
    → ((unit.standing ≡ standings.Several) ⊎ (unit.standing ≡ standings.Unknown))
    × (place_of (segments_for u.known.notes u.index_sid) unit.number ≡ Ok p)
way_says u unit p e = grind (arith, from_ok)

says_way : (u : UnitsParts) (unit : EditUnit) (p : StreamPlace)
    → ((unit.standing ≡ standings.Several) ⊎ (unit.standing ≡ standings.Unknown))
    → place_of (segments_for u.known.notes u.index_sid) unit.number ≡ Ok p → way_asked u unit ≡ Some p
says_way u unit p (inl s) e = ap (λ t. Rattle.mxf_partial.specs.Questions.way_asked_as t u unit) s ∙ ap result_ok e
says_way u unit p (inr s) e = ap (λ t. Rattle.mxf_partial.specs.Questions.way_asked_as t u unit) s ∙ ap result_ok e

pub ways_are : (w : WantedParts) (p : StreamPlace)
    → In p (filter_map (way_asked w.units) (wanted_units w)) ↔ NeedsWay w p
ways_are w p =
    let members = In-filter_map (way_asked w.units) (wanted_units w) p in (
      λ i.
          let s = members.0 i in
          let so = way_says w.units s.0 p s.2 in
          record { unit = s.0; wanted = s.1; standing = so.0; place = so.1 },
      λ n. members.1 (n.unit, n.wanted, says_way w.units n.unit p n.standing n.place),
    )

-- ---- which need what limits them

limit_by : (r : Result Location UnitStanding) (x : ℕ)
    → option_and_then (λ (l : Location). l.zone.limit) (result_ok r) ≡ Some x
    → (l : Location) × (r ≡ Ok l) × (l.zone.limit ≡ Some x)
limit_by (Ok l) x e = (l, refl, e)
limit_by (Err s) x e = absurd cc

limit_says : (w : WantedParts) (unit : EditUnit) (x : ℕ) → In unit (wanted_units w) → limit_asked w.units unit ≡ Some x
    → NeedsLimit w x
limit_says w unit x i e = grind (arith, limit_by)

pub limits_are : (w : WantedParts) (x : ℕ) → In x (filter_map (limit_asked w.units) (wanted_units w)) ↔ NeedsLimit w x
limits_are w x =
    let members = In-filter_map (limit_asked w.units) (wanted_units w) x in (
      λ i. let s = members.0 i in limit_says w s.0 x s.1 s.2,
      λ n. members.1 (
        n.unit,
        n.wanted,
        ap (λ t. Rattle.mxf_partial.specs.Questions.limit_asked_as t w.units n.unit) n.standing
            ∙ ap (λ r. option_and_then (λ (l : Location). l.zone.limit) (result_ok r)) n.location_is ∙ n.limit_is,
      ),
    )

-- The named ones among limits.
pub named_limits : (w : WantedParts) (named : List NamedPlace) (limits : List ℕ) (n : NamedPlace)
    → AreNamed (notes_of w) named → limits ≡ filter_map (limit_asked w.units) (wanted_units w)
    → In n (filter_map (named_at named) limits) ↔ (NeedsLimit w n.place × IsNamedBy (notes_of w) n.place n.source)
named_limits w named limits n are is =
    let members = In-filter_map (named_at named) limits n in (
      λ i.
          let s = members.0 i in
          let f = found-In (λ (m : NamedPlace). m.place == s.0) named n s.2 in
          let at : n.place ≡ s.0 =
          eqb-true n.place s.0 (let t : (n.place == s.0) ≡ true = grind (arith, f.1) in t) in (
            (limits_are w n.place).0 (subst (λ x. In x (filter_map (limit_asked w.units) (wanted_units w))) (sym at)
                (subst (In s.0) is s.1)),
            (are.members n).0 f.0,
          ),
      λ h.
          let i = (are.members n).1 h.1 in
          members.1 (
            n.place,
            subst (In n.place) (sym is) ((limits_are w n.place).1 h.0),
            find-only (λ (m : NamedPlace). m.place == n.place) named n i
                (let t : (n.place == n.place) ≡ true = eq-eqb n.place n.place refl in grind (arith, t)) (λ m k t.
                one_by_key (λ (m : NamedPlace). m.place) named m n (keys_rise named are.rising) k i
                (eqb-true m.place n.place (let u : (m.place == n.place) ≡ true = grind (arith, t) in u))),
          ),
    )

-- All that units ask for.
pub asked_are : (w : WantedParts) (named before_ways before_limits asked : List NamedPlace) (limits : List ℕ)
    (partitions ways : List StreamPlace) (none : List NamedPlace) (n : NamedPlace) → AreNamed (notes_of w) named
    → none ≡ [] → partitions ≡ filter_map (partition_asked w.units) (wanted_units w)
    → ways ≡ filter_map (way_asked w.units) (wanted_units w)
    → limits ≡ filter_map (limit_asked w.units) (wanted_units w)
    → In n before_ways ↔ (In n none ⊎ (In n named × ((p : StreamPlace) × In p partitions
    × MayLieAt w.units p.body_sid p.offset n.place)))
    → In n before_limits ↔ (In n before_ways ⊎ ((p : StreamPlace) × (part : StreamPart) × In p ways
    × LeadsTo (notes_of w) p.body_sid p.offset part n.place × (n.source ≡ Some part.partition)))
    → asked ≡ before_limits ++ filter_map (named_at named) limits → In n asked ↔ IsAskedByUnit w n.place n.source
asked_are w named before_ways before_limits asked limits partitions ways none n are empty p_is w_is l_is first second third =
    let by_limit = named_limits w named limits n are l_is in
    let parts = In-append n before_limits (filter_map (named_at named) limits) in (
      λ i. elim (parts.0 (subst (In n) third i)) [
        | inl k ↦ elim (second.0 k) [
          | inl m ↦ elim (first.0 m) [
            | inl i ↦ absurd (subst (In n) empty i)
            | inr s ↦ inl (
              (s.1.0, (partitions_are w s.1.0).0 (subst (In s.1.0) p_is s.1.1), s.1.2),
              (are.members n).0 s.0,
            )
          ]
          | inr s ↦ inr (inl (s.0, s.1, (ways_are w s.0).0 (subst (In s.0) w_is s.2), s.3, s.4))
        ]
        | inr k ↦ inr (inr (by_limit.0 k))
      ],
      λ h. subst (In n) (sym third) (parts.1 (elim h [
        | inl s ↦ inl (second.1 (inl (first.1 (inr (
          (are.members n).1 s.1,
          (s.0.0, subst (In s.0.0) (sym p_is) ((partitions_are w s.0.0).1 s.0.1), s.0.2),
        )))))
        | inr k ↦ elim k [
          | inl s ↦ inl (second.1 (inr (s.0, s.1, subst (In s.0) (sym w_is) ((ways_are w s.0).1 s.2), s.3, s.4)))
          | inr s ↦ inr (by_limit.1 s)
        ]
      ])),
    )

-- ---- where the index may go on

-- The numbers of units one after another rise.
rising_from : (f : ℕ → EditUnit) → ((n : ℕ) → (f n).number ≡ n) → (first count : ℕ)
    → IsRisingFrom (λ (u : EditUnit). u.number) first (map f (range_with_len first count))
rising_from f is first zero = tt
rising_from f is first (suc count) =
    let e = is first in (
      omega (arith, e),
      subst (λ low. IsRisingFrom (λ (u : EditUnit). u.number) low (map f (range_with_len (first + 1) count)))
          (ap (λ n. n + 1) (sym e)) (rising_from f is (first + 1) count),
    )

rising_by : (low : ℕ) (units : List EditUnit) → IsRisingFrom (λ (u : EditUnit). u.number) low units
    → RiseBy (λ u. u.number) units
rising_by low [] r = tt
rising_by low (u ∷ units) r = (
  all_from_In (λ (v : EditUnit). u.number < v.number) units
      (λ v i. let l = at_or_above (λ (w : EditUnit). w.number) (u.number + 1) units v r.1 i in omega (arith, l)),
  rising_by (u.number + 1) units r.1,
)

pub number_of : (u : UnitsParts) (n : ℕ) → (unit_of u.known u.index_sid n).number ≡ n
unfolding unit_of
number_of u n = refl

pub units_rise : (u : UnitsParts) (first count : ℕ) → RiseBy (λ e. e.number) (units_with_keys u first count)
units_rise u first count =
    let from = needed_from first (units_from u first count) in
    rising_by from _ (rising_from (unit_of u.known u.index_sid) (number_of u) from (first - from + count))

-- Each of them is the unit of its number.
pub own_unit : (u : UnitsParts) (k : ℕ) (unit : EditUnit) → unit ≡ unit_of u.known u.index_sid k → IsOwn u unit
own_unit u k unit e =
    e ∙ ap (unit_of u.known u.index_sid) (sym (ap (λ (v : EditUnit). v.number) e ∙ number_of u k))

pub units_own : (u : UnitsParts) (first count : ℕ) → AllByRecursion (IsOwn u) (units_from u first count)
units_own u first count = all_from_In (IsOwn u) (units_from u first count) (λ unit h.
    let s = (In-map (unit_of u.known u.index_sid) (range_with_len first count) unit).0 h in own_unit u s.0 unit s.2)

-- The numbers of units that no segment places rise as those of all do.
pub numbers_are_rising : (units : List EditUnit) → RiseBy (λ u. u.number) units
    → IsRising nat_cmp (filter_map number_unindexed units)
numbers_are_rising units rise =
    numbers_rise _ (rises-filter_map (λ (u : EditUnit). u.number) number_unindexed (λ x. x) units number_is
    ((rise_by (λ (u : EditUnit). u.number) units).0 rise))
  where
    number_is : (unit : EditUnit) (n : ℕ) → number_unindexed unit ≡ Some n → n ≡ unit.number
    number_is unit n e = grind (arith, same_Some)

numbers_say : (w : WantedParts) (numbers : List ℕ) (x : ℕ) → numbers ≡ filter_map number_unindexed (wanted_units w)
    → MayIndexOneOf w.units numbers x ↔ MayIndex w x
numbers_say w numbers x is = (
  λ m.
      let s = (In-filter_map number_unindexed (wanted_units w) m.number).0 (subst (In m.number) is m.among) in
      let so = unindexed_says s.0 m.number s.2 in
      record {
        named = m.named;
        unit = s.0;
        wanted = s.1;
        standing = so.0;
        between = subst (λ n. LiesBetweenSegments (segments_for (notes_of w) w.units.index_sid) n x)
            (sym so.1) m.between;
      },
  λ m. record {
    named = m.named;
    number = m.unit.number;
    among = subst (In m.unit.number) (sym is) ((In-filter_map number_unindexed (wanted_units w) m.unit.number).1 (
      m.unit,
      m.wanted,
      ap (λ s. Rattle.mxf_partial.specs.Questions.number_unindexed_as s m.unit) m.standing,
    ));
    between = m.between;
  },
)
  where
    unindexed_says : (unit : EditUnit) (n : ℕ) → number_unindexed unit ≡ Some n
        → (unit.standing ≡ standings.NotIndexed) × (unit.number ≡ n)
    unindexed_says unit n e = by unit.standing refl e
      where
        by : (s : UnitStanding) → unit.standing ≡ s
            → Rattle.mxf_partial.specs.Questions.number_unindexed_as s unit ≡ Some n
            → (unit.standing ≡ standings.NotIndexed) × (unit.number ≡ n)
        by standings.NotIndexed is f = (is, same_Some _ _ f)
        by standings.Ambiguous is f = absurd cc
        by standings.NoPartition is f = absurd cc
        by standings.Elsewhere is f = absurd cc
        by standings.Several is f = absurd cc
        by standings.Unknown is f = absurd cc
        by standings.Unsure is f = absurd cc
        by standings.Disputed is f = absurd cc
        by standings.Missing is f = absurd cc
        by standings.Part is f = absurd cc
        by standings.Held is f = absurd cc
        by standings.Hand is f = absurd cc

chosen_alike : (P Q : ℕ → Type 0) (x : ℕ) → ((y : ℕ) → P y ↔ Q y) → IsOneOf16 P x → IsOneOf16 Q x
chosen_alike P Q x same c = grind arith

-- What is asked for by units, and where the index may go on.
pub both_are : (w : WantedParts) (named before asked : List NamedPlace) (numbers : List ℕ) (n : NamedPlace)
    → AreNamed (notes_of w) named → numbers ≡ filter_map number_unindexed (wanted_units w)
    → In n before ↔ IsAskedByUnit w n.place n.source
    → In n asked ↔ (In n before ⊎ (In n named × IsOneOf16 (MayIndexOneOf w.units numbers) n.place))
    → In n asked ↔ (IsAskedByUnit w n.place n.source ⊎ IsAskedByIndex w n.place n.source)
both_are w named before asked numbers n are is first second =
    let to = chosen_alike (MayIndexOneOf w.units numbers) (MayIndex w) n.place (λ y. numbers_say w numbers y is) in
    let back = chosen_alike (MayIndex w) (MayIndexOneOf w.units numbers) n.place
    (λ y. let s = numbers_say w numbers y is in (s.1, s.0)) in (
      λ i. elim (second.0 i) [ inl k ↦ inl (first.0 k) | inr k ↦ inr (to k.1, (are.members n).0 k.0) ],
      λ h. second.1 (elim h [ inl k ↦ inl (first.1 k) | inr k ↦ inr ((are.members n).1 k.1, back k.0) ]),
    )
