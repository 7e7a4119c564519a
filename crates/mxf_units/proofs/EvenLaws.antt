-- Edit units of one size that lie side by side.
use Rattle.mxf_views.proofs.Common.{◌≡◌, ◌∙◌, ◌+◌, ◌*◌, ◌-◌, ◌<◌, ◌≤◌, ◌||◌, ◌==◌, ℕ, Bool, true, Option, None}
use Rattle.mxf_views.proofs.Common.{Some, Ok, List, ap, arith, inl, inr, subst, sym, and_parts, leb-true, lt-ltb, In}
use Rattle.mxf_views.proofs.Common.{NoteParts, PartitionParts, IsOnlyPlace, SegmentAtParts, segments_of, nat_le}
use Rattle.mxf_views.proofs.Common.{nat_lt, if◌then◌else◌, unsigned_abs, covers_constant, covers_entry, entry_offset}
use Rattle.mxf_views.proofs.Common.{stream_offset, is_constant, cases_lt, ◌≢◌, ◌⊎◌, false, option_map, option_or, refl}
use Rattle.mxf_views.proofs.Common.{same_Some, unwrap_or, [], ◌∷◌, count_by, count_by-cons, map, range_with_len, suc, tally}
use Rattle.mxf_views.proofs.Common.{zero, IsTrue, LiesIn, not, not-true, ◌↔◌}
use Rattle.std.proofs.Math.Nat.{mul-le-mul_left}
use Rattle.mxf_catalogue.specs.declared.run.Run.{Run}
use Rattle.mxf_places.specs.AtHand.{KnownParts}
use Rattle.mxf_places.specs.Held.{AreDisputed, IsDisputedAt, IsHeld}
use Rattle.mxf_units.specs.declared.location.Location.{Location}
use Rattle.mxf_units.specs.declared.unit.Extent.{Extent}
use Rattle.mxf_units.specs.declared.standing.UnitStanding.TheVariants as standings
use Rattle.mxf_units.specs.declared.standing.UnitStanding.{UnitStanding}
use Rattle.mxf_units.specs.EvenUnits.{AreAtHandTogether, AreEven, AreHeldTogether, AreNeitherTogether, EvenParts}
use Rattle.mxf_units.specs.EvenUnits.{IsCommon, counts_by, counts_of, counts_of_standing, even_location, is_at_hand}
use Rattle.mxf_units.specs.EvenUnits.{is_held, stands_at_hand, stands_held}
use Rattle.mxf_units.specs.Ranges.{units_from}
use Rattle.mxf_units.specs.declared.even_units.Common.{Common}
use Rattle.mxf_units.specs.declared.even_units.Common.TheVariants as commons
use Rattle.mxf_units.specs.declared.even_units.UnitCounts.{UnitCounts}
use Rattle.mxf_units.specs.declared.unit.EditUnit.{EditUnit}
use Rattle.mxf_units.specs.Extents.{IsEndPlaceOf}
use Rattle.mxf_units.specs.Standings.{AllHeld, AnyDisputed, AnyKnown, BeginsUpTo, IsStandingIn, IsZone}
use Rattle.mxf_units.specs.Standings.{LiesInside}
use Rattle.mxf_units.specs.Streams.{IsNext, segments_for}
use Rattle.mxf_units.specs.Units.{AreBesideEssence, AreKnown, are_all_held, are_all_known, is_any_disputed}
use Rattle.mxf_units.specs.Units.{is_any_known}
use Rattle.mxf_units.proofs.RangeLaws.{all_held-says, all_known-says, any_disputed-says, any_known-says}
use Rattle.mxf_units.specs.Units.{IsBesideEssence, IsKnown, UnitsParts, asked_end, end_place, extent_in, file_offset}
use Rattle.mxf_units.specs.Units.{is_told, standing_in, unit_of}
use Rattle.mxf_units.proofs.EndPlaceLaws.{end_place-told, same_end}
use Rattle.mxf_units.proofs.ExtentLaws.{says-told, told-within, zone-begins}
use Rattle.mxf_units.proofs.NextLaws.{covered, guarded_true, of_index}
use Rattle.mxf_units.proofs.OneStanding.{one-standing}
use Rattle.mxf_units.proofs.StandingLaws.{at_place, standings_by_cause}
use Rattle.mxf_units.proofs.StandingRanges.{standing-exact, standing-says}

-- A segment of units of one size gives a unit its number times that, if it covers it.
pub sized : (s : SegmentAtParts) (size k x : ℕ) → 0 < size → s.segment.numbers.unit_bytes ≡ size
    → stream_offset s.segment k ≡ Some x → (x ≡ size * k) × (covers_constant s.segment k ≡ true)
sized s size k x some is given =
    let bytes = s.segment.numbers.unit_bytes in
    let constant : is_constant s.segment.numbers ≡ true = lt-ltb 0 bytes (subst (λ b. 0 < b) (sym is) some) in
    let by_entry = if covers_entry s.segment k
    then Some (entry_offset s.segment (k - unsigned_abs s.segment.numbers.start)) else None in
    let f = ap (λ b. if b then (if covers_constant s.segment k then Some (bytes * k) else None) else by_entry)
    (sym constant) ∙ given in
    let g = guarded_true (covers_constant s.segment k) (bytes * k) x f in (sym g.1 ∙ ap (λ b. b * k) is, g.0)

module _ (p : EvenParts) (e : AreEven p) where
  abbrev u : UnitsParts
  u = p.units

  abbrev first : ℕ
  first = p.first

  abbrev last : ℕ
  last = p.last

  abbrev notes : List NoteParts
  notes = u.known.notes

  abbrev segments : List SegmentAtParts
  segments = segments_for notes u.index_sid

  -- ---- what the segments give

  constant : (s : SegmentAtParts) → In s segments → is_constant s.segment.numbers ≡ true
  constant s h = lt-ltb 0 s.segment.numbers.unit_bytes (subst (λ b. 0 < b) (sym (e.alike s h).0) e.some)

  abbrev by_entry : SegmentAtParts → ℕ → Option ℕ
  by_entry s k = if covers_entry s.segment k
      then Some (entry_offset s.segment (k - unsigned_abs s.segment.numbers.start)) else None

  gives : (s : SegmentAtParts) (k x : ℕ) → In s segments → stream_offset s.segment k ≡ Some x
      → (x ≡ p.size * k) × (covers_constant s.segment k ≡ true)
  gives s k x h given = sized s p.size k x e.some (e.alike s h).0 given

  given_at : (k : ℕ) → first ≤ k → k ≤ last → stream_offset e.by.segment k ≡ Some (p.size * k)
  given_at k low high =
      let s = e.by.segment in
      let start = unsigned_abs s.numbers.start in
      let f = (gives e.by first (p.size * first) e.held e.first_given).1 in
      let l = (gives e.by last (p.size * last) e.held e.last_given).1 in
      let r = and_parts (nat_le start first)
      ((unsigned_abs s.numbers.duration == 0) || nat_lt first (start + unsigned_abs s.numbers.duration)) f in
      let from = leb-true start first r.0 in
      let covers = covered s last k l (omega (arith, from, low)) high in
      ap (λ b. if b then (if covers_constant s k then Some (s.numbers.unit_bytes * k) else None) else by_entry e.by k)
      (constant e.by e.held) ∙ ap (λ b. if b then Some (s.numbers.unit_bytes * k) else None) covers
      ∙ ap (λ b. Some (b * k)) (e.alike e.by e.held).0

  only_at : (k : ℕ) → first ≤ k → k ≤ last → IsOnlyPlace (segments_of notes) u.index_sid k e.body_sid (p.size * k)
  only_at k low high =
      let at = (of_index notes u.index_sid e.by).0 e.held in
      record {
        given = record {
          by = e.by;
          held = at.0;
          index = at.1;
          body = (e.alike e.by e.held).1;
          offset = given_at k low high;
        };
        only = λ q g.
            let h = (of_index notes u.index_sid g.by).1 (g.held, g.index) in
            (sym g.body ∙ (e.alike g.by h).1, (gives g.by k q.offset h g.offset).0);
      }

  -- ---- the zone

  low_at : (k : ℕ) → first ≤ k → p.zone.body_offset ≤ p.size * k
  low_at k low =
      let at = zone-begins notes e.first_zone.0 p.zone e.first_zone.2 in
      let from = e.first_zone.1.begins.begins in
      let up = mul-le-mul_left p.size low in omega (arith, at, from, up)

  up_to : (k : ℕ) (q : PartitionParts) → k ≤ last → BeginsUpTo notes e.body_sid (p.size * k) q
      → q.pack.numbers.body_offset ≤ p.zone.body_offset
  up_to k q high b =
      let from = b.begins in
      let on = mul-le-mul_left p.size high in
      let at = zone-begins notes e.last_zone.0 p.zone e.last_zone.2 in
      let m = e.last_zone.1.last q (record {
        partition = b.partition;
        body = b.body;
        begins = omega (arith, from, on);
      }) in omega (arith, at, m)

  zone_of_unit : (k : ℕ) → first ≤ k → k ≤ last → IsZone notes e.body_sid (p.size * k) (Ok p.zone)
  zone_of_unit k low high =
      let part = e.first_zone.0 in
      let is = e.first_zone.1 in
      let at = zone-begins notes part p.zone e.first_zone.2 in
      let from = is.begins.begins in
      let up = mul-le-mul_left p.size low in (
        part,
        record {
          begins = record { partition = is.begins.partition; body = is.begins.body; begins = omega (arith, from, up) };
          last = λ q b. let m = up_to k q high b in omega (arith, m, at);
        },
        e.first_zone.2,
        λ q l apart.
            let m = up_to k q high l.begins in
            e.first_zone.3 q (record {
              begins = record {
                partition = l.begins.partition;
                body = l.begins.body;
                begins = omega (arith, m, at, from);
              };
              last = λ r b.
                  let more = b.begins in
                  l.last r (record { partition = b.partition; body = b.body; begins = omega (arith, more, up) });
            }) apart,
      )

  -- ---- the next place

  next_at : (k : ℕ) → first ≤ k → k < last → IsNext segments e.body_sid (p.size * k) (p.size * (k + 1))
  next_at k low high =
      let some = e.some in record {
        given = record {
          by = e.by;
          held = e.held;
          body = (e.alike e.by e.held).1;
          unit = k + 1;
          given = given_at (k + 1) (omega (arith, low)) (omega (arith, high));
        };
        above = omega (arith, some);
        least = λ other q above.
            let at = (gives q.by q.unit other q.held q.given).0 in
            elim (cases_lt k q.unit) [
              | inl l ↦ let m = mul-le-mul_left p.size l in omega (arith, at, m)
              | inr g ↦ let m = mul-le-mul_left p.size g in absurd (omega (arith, at, m, above))
            ];
      }

  end_at : (k : ℕ) → first ≤ k → k < last
      → end_place segments p.zone k e.body_sid (p.size * k) ≡ Some (p.size * (k + 1))
  end_at k low high =
      let number = e.number in
      let after = only_at (k + 1) (omega (arith, low)) (omega (arith, high)) in
      same_end notes u.index_sid k e.body_sid (p.size * k) p.zone
      (end_place segments p.zone k e.body_sid (p.size * k)) (Some (p.size * (k + 1)))
      (end_place-told notes u.index_sid k e.body_sid (p.size * k) p.zone (low_at k low))
      (record { next_is = next_at k low high; counts = inr (omega (arith, high, number), after.given) })

  -- ---- how a unit stands

  abbrev located : ℕ → Option ℕ → Location
  located k end = record { zone = p.zone; extent = extent_in p.zone (p.size * k) end }

  abbrev end_of : ℕ → Option ℕ
  end_of k = end_place segments p.zone k e.body_sid (p.size * k)

  stands_by : (k : ℕ) → first ≤ k → k ≤ last
      → (unit_of u.known u.index_sid k).standing ≡ standing_in u.known (located k (end_of k))
  stands_by k low high =
      one-standing u.known u.index_sid k _ (standing_in u.known (located k (end_of k)))
      (standings_by_cause u.known u.index_sid k)
      (at_place u.known u.index_sid k e.body_sid (p.size * k) (standing_in u.known (located k (end_of k)))
      (only_at k low high) (inr (p.zone, zone_of_unit k low high, standing-says u.known (located k (end_of k)))))

  pub stands_at : (k : ℕ) → first ≤ k → k < last
      → (unit_of u.known u.index_sid k).standing ≡ standing_in u.known (even_location p.zone p.size k)
  stands_at k low high =
      stands_by k low (omega (arith, high))
      ∙ ap (λ (o : Option ℕ). standing_in u.known (located k o)) (end_at k low high)

  -- ---- what the last unit says of all

  order : first ≤ last
  order = let l = e.order in omega (arith, l)

  last_stands : IsStandingIn u.known p.zone (located last (end_of last)).extent
      (standing_in u.known (located last (end_of last)))
  last_stands = standing-says u.known (located last (end_of last))

  last_is_told : is_told (standing_in u.known (located last (end_of last))) ≡ true
  last_is_told = ap is_told (sym (stands_by last order (omega arith))) ∙ says-told _ e.last_told

  abbrev start_at : ℕ → ℕ
  start_at k = file_offset p.zone (p.size * k)

  -- It begins below the limit.
  below_limit : (limit : ℕ) → p.zone.limit ≡ Some limit → start_at last < limit
  below_limit limit is =
      let within = told-within u.known p.zone (located last (end_of last)).extent _ last_stands last_is_told in
      elim (cases_lt (start_at last) limit) [
        | inl l ↦ l
        | inr h ↦ absurd (within (inl record { limit = limit; limit_is = is; behind = inl h }))
      ]

  -- The zone is sure, or all is held up to where it begins.
  sure_before : (p.zone.is_sure ≡ true) ⊎ AllHeld notes p.zone.origin (start_at last)
  sure_before = elim (told_sure _ last_stands last_is_told) [
    | inl s ↦ inl s
    | inr all ↦ by_sure p.zone.is_sure refl all
  ]
    where
      told_sure : (w : UnitStanding) → IsStandingIn u.known p.zone (located last (end_of last)).extent w
          → is_told w ≡ true
          → (p.zone.is_sure ≡ true) ⊎ AllHeld notes p.zone.origin (asked_end (located last (end_of last)).extent)
      told_sure standings.Disputed s t = s.0.sure
      told_sure standings.Missing s t = s.0.sure
      told_sure standings.Part s t = s.0.sure
      told_sure standings.Held s t = s.0.sure
      told_sure standings.Hand s t = s.0.sure
      told_sure standings.NotIndexed s t = absurd cc
      told_sure standings.Ambiguous s t = absurd cc
      told_sure standings.NoPartition s t = absurd cc
      told_sure standings.Several s t = absurd cc
      told_sure standings.Unknown s t = absurd cc
      told_sure standings.Elsewhere s t = absurd cc
      told_sure standings.Unsure s t = absurd cc

      far : (o : Option ℕ) → IsEndPlaceOf notes u.index_sid last e.body_sid (p.size * last) p.zone o
          → (limit : Option ℕ) → ((x : ℕ) → limit ≡ Some x → start_at last < x)
          → start_at last ≤ unwrap_or (option_or (option_map (file_offset p.zone) o) limit) (start_at last + 1)
      far (Some next) is limit below = let above = is.next_is.above in omega (arith, above)
      far None is (Some x) below = let l = below x refl in omega (arith, l)
      far None is None below = omega arith

      by_sure : (b : Bool) → p.zone.is_sure ≡ b
          → AllHeld notes p.zone.origin (asked_end (located last (end_of last)).extent)
          → (p.zone.is_sure ≡ true) ⊎ AllHeld notes p.zone.origin (start_at last)
      by_sure true s all = inl s
      by_sure false s all = inr (λ x from to.
          let reach = far (end_of last) (end_place-told notes u.index_sid last e.body_sid (p.size * last) p.zone
          (low_at last order)) (if p.zone.is_sure then p.zone.limit else None) (λ y is.
          let f = ap (λ b. if b then p.zone.limit else None) s in
          let n : None ≡ Some y = sym f ∙ is in absurd cc) in
          all x from (omega (arith, to, reach)))

  starts_rise : (k m : ℕ) → k ≤ m → start_at k ≤ start_at m
  starts_rise k m l = let up = mul-le-mul_left p.size l in omega (arith, up)

  abbrev extent_at : ℕ → Extent
  extent_at k = (even_location p.zone p.size k).extent

  -- The bytes of each unit before it lie in the zone, unless they begin in a packet that can't be essence.
  inside : (k : ℕ) → k < last → ¬ IsBesideEssence notes (start_at k) → LiesInside notes p.zone (extent_at k)
  inside k high essence = record {
    within = λ h. elim h [
      | inl g ↦
          let below = below_limit g.limit g.limit_is in
          let here = starts_rise k last (omega (arith, high)) in
          let next = starts_rise (k + 1) last (omega (arith, high)) in
          elim g.behind [
            | inl l ↦ omega (arith, below, here, l)
            | inr s ↦ let same = same_Some _ _ s.1 in let l = s.2 in omega (arith, below, next, same, l)
          ]
      | inr b ↦ essence b
    ];
    sure = elim sure_before [
      | inl s ↦ inl s
      | inr all ↦ inr (λ x from to.
          let next = starts_rise (k + 1) last (omega (arith, high)) in all x from (omega (arith, to, next)))
    ];
  }

  some_bytes : (k : ℕ) → first ≤ k → start_at k < start_at (k + 1)
  some_bytes k low = let some = e.some in let l = low_at k low in omega (arith, some, l)

  abbrev IsAllOf : (ℕ → Type 0) → ℕ → ℕ → Type 0
  IsAllOf P from to = (x : ℕ) → from ≤ x → x < to → P x

  -- A unit all of whose bytes are held, and none disputed, is held.
  pub held_by : (k : ℕ) → first ≤ k → k < last → ¬ IsBesideEssence notes (start_at k)
      → IsAllOf (IsHeld notes) (start_at k) (start_at (k + 1))
      → ¬ AnyDisputed notes (start_at k) (start_at (k + 1))
      → (unit_of u.known u.index_sid k).standing ≡ standings.Held
  held_by k low high essence all clear =
      let some = some_bytes k low in
      stands_at k low high ∙ standing-exact u.known (even_location p.zone p.size k) standings.Held (
        inside k high essence,
        clear,
        (start_at k, inl (all (start_at k) (omega arith) some), omega arith, some),
        refl,
        all,
      )

  -- One all of whose bytes are at hand, and none held, is at hand.
  pub hand_by : (k : ℕ) → first ≤ k → k < last → ¬ IsBesideEssence notes (start_at k)
      → IsAllOf (IsKnown u.known) (start_at k) (start_at (k + 1))
      → IsAllOf (λ x. ¬ IsHeld notes x) (start_at k) (start_at (k + 1))
      → (unit_of u.known u.index_sid k).standing ≡ standings.Hand
  hand_by k low high essence all none =
      let some = some_bytes k low in
      stands_at k low high ∙ standing-exact u.known (even_location p.zone p.size k) standings.Hand (
        inside k high essence,
        (λ d. none d.0 d.2 d.3 (d.1.0, d.1.1, d.1.3)),
        (start_at k, all (start_at k) (omega arith) some, omega arith, some),
        refl,
        all,
        λ held. none (start_at k) (omega arith) some (held (start_at k) (omega arith) some),
      )

  -- One of which no byte is known, or one is disputed, or whose first lies in a packet that can't be essence, is neither.
  pub neither_by : (k : ℕ) → first ≤ k → k < last
      → (¬ AnyKnown u.known (start_at k) (start_at (k + 1))) ⊎ (AnyDisputed notes (start_at k) (start_at (k + 1))
      ⊎ IsBesideEssence notes (start_at k))
      → ((unit_of u.known u.index_sid k).standing ≢ standings.Held)
      × ((unit_of u.known u.index_sid k).standing ≢ standings.Hand)
  neither_by k low high why =
      let at = stands_at k low high in
      let says = standing-says u.known (even_location p.zone p.size k) in
      let no : (w : UnitStanding) → IsStandingIn u.known p.zone (extent_at k) w
      → (w ≡ standings.Held) ⊎ (w ≡ standings.Hand) → ⊥ = λ w s c. by_case w s c why in (
        λ h. no (standing_in u.known (even_location p.zone p.size k)) says (inl (sym at ∙ h)),
        λ h. no (standing_in u.known (even_location p.zone p.size k)) says (inr (sym at ∙ h)),
      )
    where
      parts : (w : UnitStanding) → IsStandingIn u.known p.zone (extent_at k) w
          → (w ≡ standings.Held) ⊎ (w ≡ standings.Hand)
          → LiesInside notes p.zone (extent_at k) × (¬ AnyDisputed notes (start_at k) (start_at (k + 1)))
          × AnyKnown u.known (start_at k) (start_at (k + 1))
      parts standings.Held s c = (s.0, s.1, s.2)
      parts standings.Hand s c = (s.0, s.1, s.2)
      parts standings.NotIndexed s c = absurd s
      parts standings.Ambiguous s c = absurd s
      parts standings.NoPartition s c = absurd s
      parts standings.Several s c = absurd s
      parts standings.Unknown s c = absurd s
      parts standings.Elsewhere s (inl f) = absurd cc
      parts standings.Elsewhere s (inr f) = absurd cc
      parts standings.Unsure s (inl f) = absurd cc
      parts standings.Unsure s (inr f) = absurd cc
      parts standings.Disputed s (inl f) = absurd cc
      parts standings.Disputed s (inr f) = absurd cc
      parts standings.Missing s (inl f) = absurd cc
      parts standings.Missing s (inr f) = absurd cc
      parts standings.Part s (inl f) = absurd cc
      parts standings.Part s (inr f) = absurd cc

      by_case : (w : UnitStanding) → IsStandingIn u.known p.zone (extent_at k) w
          → (w ≡ standings.Held) ⊎ (w ≡ standings.Hand)
          → (¬ AnyKnown u.known (start_at k) (start_at (k + 1)))
          ⊎ (AnyDisputed notes (start_at k) (start_at (k + 1)) ⊎ IsBesideEssence notes (start_at k)) → ⊥
      by_case w s c (inl none) = none (parts w s c).2
      by_case w s c (inr (inl d)) = (parts w s c).1 d
      by_case w s c (inr (inr b)) = (parts w s c).0.within (inr b)

  -- ---- units whose bytes together say how they stand

  module _ (from count : ℕ) (low : first ≤ from) (high : from + count ≤ last) (k : ℕ) (at : from ≤ k)
      (before : k < from + count) where
    abbrev begin : ℕ
    begin = start_at from

    abbrev end : ℕ
    end = start_at (from + count)

    from_begin : begin ≤ start_at k
    from_begin = starts_rise from k at

    up_to_end : start_at (k + 1) ≤ end
    up_to_end = starts_rise (k + 1) (from + count) (omega (arith, before))

    some_of_it : start_at k < start_at (k + 1)
    some_of_it = some_bytes k (omega (arith, low, at))

    pub held_together : AreHeldTogether u begin end → (unit_of u.known u.index_sid k).standing ≡ standings.Held
    held_together t = held_by k (omega (arith, low, at)) (omega (arith, before, high))
        (λ b. t.essence (start_at k) b from_begin (omega (arith, some_of_it, up_to_end)))
        (λ x l r. t.held x (omega (arith, l, from_begin)) (omega (arith, r, up_to_end)))
        (λ d.
        let l = d.2 in
        let r = d.3 in t.clear (d.0, d.1, omega (arith, l, from_begin), omega (arith, r, up_to_end)))

    pub hand_together : AreAtHandTogether u begin end → (unit_of u.known u.index_sid k).standing ≡ standings.Hand
    hand_together t = hand_by k (omega (arith, low, at)) (omega (arith, before, high))
        (λ b. t.none (start_at k) (b.by, b.alone.held, b.covered) from_begin (omega (arith, some_of_it, up_to_end)))
        (λ x l r. t.known x (omega (arith, l, from_begin)) (omega (arith, r, up_to_end)))
        (λ x l r h. t.none x h (omega (arith, l, from_begin)) (omega (arith, r, up_to_end)))

    pub neither_together : AreNeitherTogether u begin end
        → ((unit_of u.known u.index_sid k).standing ≢ standings.Held)
        × ((unit_of u.known u.index_sid k).standing ≢ standings.Hand)
    neither_together why = neither_by k (omega (arith, low, at)) (omega (arith, before, high)) (elim why [
      | inl none ↦ inl (λ a.
          let l = a.2 in
          let r = a.3 in none (a.0, a.1, omega (arith, l, from_begin), omega (arith, r, up_to_end)))
      | inr some ↦ elim some [
        | inl d ↦ inr (inl (
          start_at k,
          d (start_at k) from_begin (omega (arith, some_of_it, up_to_end)),
          omega arith,
          some_of_it,
        ))
        | inr b ↦ inr (inr (b (start_at k) from_begin (omega (arith, some_of_it, up_to_end))))
      ]
    ])

-- ---- how many there are of each

-- What holds of bytes holds of the same bytes of the same units.
pub moved : (P : UnitsParts → ℕ → ℕ → Type 0) (u v : UnitsParts) (from begin to end : ℕ) → u ≡ v → from ≡ begin
    → to ≡ end → P u from to → P v begin end
moved P u v from begin to end a b c h =
    subst (λ (w : UnitsParts). P w begin end) a (subst (λ x. P u x end) b (subst (λ x. P u from x) c h))

module _ (f : EditUnit → Bool) (g : ℕ → EditUnit) where
  abbrev counted : ℕ → ℕ → ℕ
  counted from count = count_by f (map g (range_with_len from count))

  all_count : (from count : ℕ) → ((k : ℕ) → from ≤ k → k < from + count → f (g k) ≡ true)
      → counted from count ≡ count
  all_count from zero all = refl
  all_count from (suc count) all =
      let first = ap tally (all from (omega arith) (omega arith)) in
      let rest = all_count (from + 1) count (λ k l r. all k (omega (arith, l)) (omega (arith, r))) in
      let step = count_by-cons f (g from) (map g (range_with_len (from + 1) count)) in omega (arith, first, rest, step)

  none_count : (from count : ℕ) → ((k : ℕ) → from ≤ k → k < from + count → f (g k) ≡ false) → counted from count ≡ 0
  none_count from zero all = refl
  none_count from (suc count) all =
      let first = ap tally (all from (omega arith) (omega arith)) in
      let rest = none_count (from + 1) count (λ k l r. all k (omega (arith, l)) (omega (arith, r))) in
      let step = count_by-cons f (g from) (map g (range_with_len (from + 1) count)) in omega (arith, first, rest, step)

  split_count : (from a b : ℕ) → counted from (a + b) ≡ counted from a + counted (from + a) b
  split_count from zero b =
      let z : zero + b ≡ b = omega arith in
      let s : from ≡ from + zero = omega arith in
      let e : counted from (zero + b) ≡ counted (from + zero) b = λ i. counted (s i) (z i) in omega (arith, e)
  split_count from (suc a) b =
      let n : suc a + b ≡ suc (a + b) = omega arith in
      let s : from + 1 + a ≡ from + suc a = omega arith in
      let e = ap (counted from) n in
      let whole = count_by-cons f (g from) (map g (range_with_len (from + 1) (a + b))) in
      let part = count_by-cons f (g from) (map g (range_with_len (from + 1) a)) in
      let rest = split_count (from + 1) a b in
      let moved = ap (λ x. counted x b) s in omega (arith, e, whole, part, rest, moved)

-- Units that all stand so come to so many.
pub common_counts : (u : UnitsParts) (common : Common) (from count : ℕ)
    → ((k : ℕ) → from ≤ k → k < from + count → IsCommon common (unit_of u.known u.index_sid k).standing)
    → counts_by common count ≡ counts_of (units_from u from count)
common_counts u commons.Held from count all =
    let unit = unit_of u.known u.index_sid in
    let held = all_count is_held unit from count (λ k l r. ap stands_held (all k l r)) in
    let hand = none_count is_at_hand unit from count (λ k l r. ap stands_at_hand (all k l r)) in
    λ i. record { held = sym held i; hand = sym hand i }
common_counts u commons.Hand from count all =
    let unit = unit_of u.known u.index_sid in
    let held = none_count is_held unit from count (λ k l r. ap stands_held (all k l r)) in
    let hand = all_count is_at_hand unit from count (λ k l r. ap stands_at_hand (all k l r)) in
    λ i. record { held = sym held i; hand = sym hand i }
common_counts u commons.Neither from count all =
    let unit = unit_of u.known u.index_sid in
    let held = none_count is_held unit from count (λ k l r. not_held _ (all k l r).0) in
    let hand = none_count is_at_hand unit from count (λ k l r. not_at_hand _ (all k l r).1) in
    λ i. record { held = sym held i; hand = sym hand i }
  where
    not_held : (w : UnitStanding) → w ≢ standings.Held → stands_held w ≡ false
    not_held standings.Held n = absurd (n refl)
    not_held _ n = refl

    not_at_hand : (w : UnitStanding) → w ≢ standings.Hand → stands_at_hand w ≡ false
    not_at_hand standings.Hand n = absurd (n refl)
    not_at_hand _ n = refl

-- Those of two parts come to those of both.
pub both_counts : (u : UnitsParts) (from half count : ℕ) (a b : UnitCounts) → half ≤ count
    → a ≡ counts_of (units_from u from half) → b ≡ counts_of (units_from u (from + half) (count - half))
    → ◌≡◌ {A = UnitCounts} (record { held = a.held + b.held; hand = a.hand + b.hand })
    (counts_of (units_from u from count))
both_counts u from half count a b low e f =
    let unit = unit_of u.known u.index_sid in
    let n : half + (count - half) ≡ count = omega (arith, low) in
    let held = sym (split_count is_held unit from half (count - half)) ∙ ap (counted is_held unit from) n in
    let hand = sym (split_count is_at_hand unit from half (count - half)) ∙ ap (counted is_at_hand unit from) n in
    (λ i. record { held = (e i).held + (f i).held; hand = (e i).hand + (f i).hand })
    ∙ (λ i. record { held = held i; hand = hand i })

-- One is what it stands as.
pub one_counts : (u : UnitsParts) (from : ℕ)
    → counts_of_standing (unit_of u.known u.index_sid from).standing ≡ counts_of (units_from u from 1)
one_counts u from =
    let unit = unit_of u.known u.index_sid in
    let step_held = count_by-cons is_held (unit from) [] in
    let step_hand = count_by-cons is_at_hand (unit from) [] in
    let held : tally (stands_held (unit from).standing) ≡ count_by is_held (unit from ∷ []) = omega (arith, step_held) in
    let hand : tally (stands_at_hand (unit from).standing) ≡ count_by is_at_hand (unit from ∷ []) =
    omega (arith, step_hand) in
    by_standing (unit from).standing ∙ (λ i. record { held = held i; hand = hand i })
  where
    by_standing : (w : UnitStanding) → counts_of_standing w
        ≡ record { held = tally (stands_held w); hand = tally (stands_at_hand w) }
    by_standing standings.Held = refl
    by_standing standings.Hand = refl
    by_standing _ = refl

-- ---- what the tests of a range say

pub held_tests : (u : UnitsParts) (notes others : List NoteParts) (beside : List Run) (from to : ℕ) (all any meets : Bool)
    → notes ≡ u.known.notes → others ≡ u.known.notes → AreBesideEssence u.known.notes beside
    → all ≡ are_all_held notes from to → any ≡ is_any_disputed others from to
    → IsTrue meets ↔ ((x : ℕ) × LiesIn beside x × (from ≤ x) × (x < to)) → all ≡ true → not any ≡ true
    → not meets ≡ true → AreHeldTogether u from to
held_tests u notes others beside from to all any meets same also are is said so a b m = record {
  held = (all_held-says u.known.notes from to).0 (ap (λ l. are_all_held l from to) (sym same) ∙ sym is ∙ a);
  clear = λ d.
      let t = ap (λ l. is_any_disputed l from to) also in
      let yes : any ≡ true = said ∙ t ∙ (any_disputed-says u.known.notes from to).1 d in
      let no = not-true any b in cc (yes, no);
  essence = λ x b l r. let yes = so.1 (x, (are x).1 b, l, r) in let no = not-true meets m in cc (yes, no);
}

pub hand_tests : (u : UnitsParts) (notes : List NoteParts) (known : List Run) (from to : ℕ) (all any : Bool)
    → notes ≡ u.known.notes → AreKnown u.known known
    → ((k : KnownParts) → AreKnown k known → all ≡ are_all_known k from to)
    → IsTrue any ↔ ((x : ℕ) × IsHeld notes x × (from ≤ x) × (x < to)) → all ≡ true → not any ≡ true
    → AreAtHandTogether u from to
hand_tests u notes known from to all any same are is so a b = record {
  known = (all_known-says u.known from to).0 (sym (is u.known are) ∙ a);
  none = λ x h l r.
      let yes = so.1 (x, subst (λ l. IsHeld l x) (sym same) h, l, r) in let no = not-true any b in cc (yes, no);
}

pub none_tests : (u : UnitsParts) (known : List Run) (from to : ℕ) (any : Bool) → AreKnown u.known known
    → ((k : KnownParts) → AreKnown k known → any ≡ is_any_known k from to) → not any ≡ true
    → AreNeitherTogether u from to
none_tests u known from to any are is n = inl (λ a.
    let yes : any ≡ true = is u.known are ∙ (any_known-says u.known from to).1 a in
    let no = not-true any n in cc (yes, no))

pub disputed_tests : (u : UnitsParts) (notes : List NoteParts) (disputed : List Run) (from to : ℕ) → notes ≡ u.known.notes
    → AreDisputed notes disputed → ((x : ℕ) → from ≤ x → x < to → LiesIn disputed x) → AreNeitherTogether u from to
disputed_tests u those disputed from to same are all =
    inr (inl (λ x l r. subst (λ l. IsDisputedAt l x) same ((are x).0 (all x l r))))

pub beside_tests : (u : UnitsParts) (beside : List Run) (from to : ℕ) → AreBesideEssence u.known.notes beside
    → ((x : ℕ) → from ≤ x → x < to → LiesIn beside x) → AreNeitherTogether u from to
beside_tests u beside from to are all = inr (inr (λ x l r. (are x).0 (all x l r)))
