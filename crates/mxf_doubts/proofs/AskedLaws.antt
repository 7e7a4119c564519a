-- Which units are asked: each one at which a packet begins, and the first of those in a row that miss their packets.
use Rattle.mxf_views.proofs.Common.{◌≡◌, ◌≢◌, ◌∙◌, ◌⊎◌, ◌<◌, ◌≤◌, ◌+◌, ◌-◌, ◌*◌, ◌/◌, ◌==◌, ◌&&◌, ◌||◌, ℕ}
use Rattle.mxf_views.proofs.Common.{Bool, true, false, List, [], ◌∷◌, ◌++◌, Option, None, Some, Ok, refl, sym, ap, subst}
use Rattle.mxf_views.proofs.Common.{inl, inr, arith, eq-eqb, eqb-true, In, In-append, In-filter, In-flat_map, In-map, In-union}
use Rattle.mxf_views.proofs.Common.{and_from, and_parts, cases_lt, filter, le-leb, leb-true, lt-ltb, ltb-true, nat_le, nat_lt, list_any, list_any-In}
use Rattle.mxf_views.proofs.Common.{NoteParts, SegmentAtParts, PartitionParts, segments_of, clear_notes, In-clear_notes, same_Some, IsContent}
use Rattle.mxf_views.proofs.Common.{flat_map, if◌then◌else◌, IsGiven, stream_offset, is_constant, entry_count}
use Rattle.mxf_views.proofs.Common.{covers_constant, covers_entry, entry_offset, unsigned_abs, mul-le-mul_left, either, option_map_or}
use Rattle.std.proofs.Math.Nat.{le-div_iff_mul-le, mul-add, mul-div-le, mul_comm}
use Rattle.mxf_sets.specs.Offset.{entry_at}
use Rattle.mxf_views.specs.declared.index.place.StreamPlace.{StreamPlace}
use Rattle.mxf_units.specs.EssenceZones.{part_of, parts_of}
use Rattle.mxf_units.specs.Standings.{BeginsUpTo, IsLast, IsZone}
use Rattle.mxf_units.specs.declared.essence_zone.EssenceZone.{EssenceZone}
use Rattle.mxf_units.specs.declared.essence_zone.part.StreamPart.{StreamPart}
use Rattle.mxf_units.proofs.StandingZones.{In-parts}
use Rattle.mxf_doubts.specs.declared.starts.stream_index.StreamIndex.{StreamIndex}
use Rattle.mxf_doubts.specs.DoubtCauses.{AreSizedAlike, BeginsPacket, IsListed, IsUnitAt, MissesPacket}
use Rattle.mxf_doubts.specs.UnitStarts.{asked_units, borders_of, first_of, is_in_zone, is_number, listed_in, packet_offsets, sized_segments}
use Rattle.mxf_doubts.specs.UnitStarts.{stream_indexes, units_at, units_by, units_from, units_of_part}
use Rattle.mxf_doubts.proofs.EndLaws.{zone_tells}
use Rattle.mxf_doubts.proofs.IndexLaws.{In-listed, IsOfAsked, first_sized, one_unit, unit_total}
use Rattle.mxf_doubts.proofs.MissLaws.{one_clear}
use Rattle.mxf_doubts.proofs.StartLaws.{IsSizedUnit, alone_of, given_sized}
use Rattle.mxf_doubts.proofs.StrangeLaws.{three, three_from}

-- ---- The first unit at an offset or above

-- It begins there or above, and none before it does.
record IsFirstFrom (from bytes first : ℕ) : Type 0 where
  reaches : from ≤ bytes * first
  least : (unit : ℕ) → from ≤ bytes * unit → first ≤ unit

first_from : (from bytes : ℕ) → 0 < bytes → IsFirstFrom from bytes ((from + (bytes - 1)) / bytes)
first_from from bytes some =
    let all = from + (bytes - 1) in
    let first = all / bytes in
    let above : all < bytes * first + bytes = elim (cases_lt all (bytes * first + bytes)) [
      | inl l ↦ l
      | inr m ↦
          let next : first + 1 ≤ first = (le-div_iff_mul-le some).1 (subst (λ n. n ≤ all)
          (sym (mul_comm (first + 1) bytes ∙ mul-add bytes first 1 ∙ one_more (bytes * first) bytes)) m) in absurd (omega (arith, next))
    ] in record {
      reaches = omega (arith, above, some);
      least = λ unit l. elim (cases_lt unit first) [
        | inr m ↦ m
        | inl m ↦
            let up = mul-le-mul_left bytes (at_next unit first m) in
            let down = mul-div-le all bytes in
            let more = mul-add bytes unit 1 in
            absurd (too_far from bytes (bytes * unit) (bytes * first) (bytes * (unit + 1)) (bytes * 1) some l up down more (one bytes))
      ];
    }
  where
    one : (b : ℕ) → b * 1 ≡ b
    one b = omega arith

    one_more : (a b : ℕ) → a + b * 1 ≡ a + b
    one_more a b = omega arith

    at_next : (u f : ℕ) → u < f → u + 1 ≤ f
    at_next u f l = omega (arith, l)

    too_far : (from b bu bf bn b1 : ℕ) → 0 < b → from ≤ bu → bn ≤ bf → bf ≤ from + (b - 1) → bn ≡ bu + b1 → b1 ≡ b → ⊥
    too_far from b bu bf bn b1 some l up down more e = omega (arith, some, l, up, down, more, e)

in_two : (i u j f : ℕ) → j ≡ i → (u ≡ f) ⊎ (u ≡ f + 1) → In {K = ℕ × ℕ} (i, u) ((j, f) ∷ (j, f + 1) ∷ [])
in_two i u j f e (inl g) = inl (λ k. (sym e k, g k))
in_two i u j f e (inr g) = inr (inl (λ k. (sym e k, g k)))

module _ (notes : List NoteParts) (content : IsContent notes) where
  abbrev asked : List (ℕ × ℕ)
  asked = asked_units notes (parts_of notes)

  abbrev sized : List StreamIndex
  sized = stream_indexes (sized_segments notes)

  among : (u : ℕ × ℕ) → (In u (flat_map listed_in (segments_of notes)) ⊎ In u (flat_map borders_of (segments_of notes)))
      ⊎ In u (flat_map (units_of_part (packet_offsets notes) sized) (parts_of notes)) → In u asked
  among u h =
      let listed = flat_map listed_in (segments_of notes) in
      let borders = flat_map borders_of (segments_of notes) in
      let packets = flat_map (units_of_part (packet_offsets notes) sized) (parts_of notes) in
      (In-union unit_total one_unit u [] ((listed ++ borders) ++ packets)).1 (inr ((In-append u (listed ++ borders) packets).1 (elim h [
        | inl k ↦ inl ((In-append u listed borders).1 k)
        | inr k ↦ inr k
      ])))

  listed_asked : (index_sid unit : ℕ) → IsListed notes index_sid unit → In (index_sid, unit) asked
  listed_asked index_sid unit l = among (index_sid, unit) (inl (inl ((In-listed notes (index_sid, unit)).1 l)))

  border_asked : (index_sid unit : ℕ) (s : SegmentAtParts) → In s (segments_of notes) → s.segment.numbers.index_sid ≡ index_sid
      → (unit ≡ unsigned_abs s.segment.numbers.start)
      ⊎ ((unit ≡ unsigned_abs s.segment.numbers.start + entry_count s.segment)
      ⊎ (unit ≡ unsigned_abs s.segment.numbers.start + unsigned_abs s.segment.numbers.duration))
      → In (index_sid, unit) asked
  border_asked index_sid unit s i e at =
      among (index_sid, unit) (inl (inr ((In-flat_map borders_of (segments_of notes) (index_sid, unit)).1 (
        s,
        i,
        elim at [
          | inl f ↦ inl (λ j. (sym e j, f j))
          | inr k ↦ elim k [ inl f ↦ inr (inl (λ j. (sym e j, f j))) | inr f ↦ inr (inr (inl (λ j. (sym e j, f j)))) ]
        ],
      ))))

  -- ---- Zones

  -- The zone is that of a part of the stream that begins at the place or before.
  zone_part : (body_sid : ℕ) (place : ℕ) (z : EssenceZone) → IsZone notes body_sid place (Ok z)
      → (p : StreamPart) × In p (parts_of notes) × (p.body_sid ≡ body_sid) × (p.zone ≡ Some z)
  zone_part body_sid place z zone = (
    part_of notes zone.0,
    (In-parts notes (part_of notes zone.0)).1 (zone.0, zone.1.begins.partition, refl),
    zone.1.begins.body,
    zone.2,
  )

  part_offset : (body_sid : ℕ) (place : ℕ) (z : EssenceZone) (zone : IsZone notes body_sid place (Ok z))
      → z.body_offset ≡ zone.0.pack.numbers.body_offset
  part_offset body_sid place z zone =
      let t = (zone_tells notes content zone.0 z).0 zone.2 in t.2.body_offset

  -- A lesser place at the BodyOffset or above has the same zone.
  module _ (body_sid low place : ℕ) (z : EssenceZone) (l : low ≤ place) (from : z.body_offset ≤ low)
      (zone : IsZone notes body_sid place (Ok z)) where
    up : (q : PartitionParts) → BeginsUpTo notes body_sid low q → BeginsUpTo notes body_sid place q
    up q b = let m = b.begins in record { partition = b.partition; body = b.body; begins = omega (arith, m, l) }

    here : BeginsUpTo notes body_sid low zone.0
    here =
        let last = zone.1 in
        let own = part_offset body_sid place z zone in record {
          partition = last.begins.partition;
          body = last.begins.body;
          begins = omega (arith, own, from);
        }

    last_up : (q : PartitionParts) → IsLast notes body_sid low q → IsLast notes body_sid place q
    last_up q k = record {
      begins = up q k.begins;
      last = λ r b. let m = zone.1.last r b in let n = k.last zone.0 here in omega (arith, m, n);
    }

    lower_zone : IsZone notes body_sid low (Ok z)
    lower_zone = (
      zone.0,
      record { begins = here; last = λ q b. zone.1.last q (up q b) },
      zone.2,
      λ q k apart. zone.3 q (last_up q k) apart,
    )

  -- ---- Units at packets

  -- The unit is one of the first two from where a packet begins that lies in the zone.
  packet_asked : (body_sid body_offset unit x : ℕ) (k : IsUnitAt notes body_sid body_offset unit x) (s : StreamIndex)
      → first_of body_sid sized ≡ Some s → s.index_sid ≡ k.index_sid → (n : NoteParts) → In n (clear_notes notes)
      → k.zone.origin ≤ n.offset → n.offset ≤ x
      → (unit ≡ (k.zone.body_offset + (n.offset - k.zone.origin) + (s.unit_bytes - 1)) / s.unit_bytes)
      ⊎ (unit ≡ (k.zone.body_offset + (n.offset - k.zone.origin) + (s.unit_bytes - 1)) / s.unit_bytes + 1)
      → In (k.index_sid, unit) asked
  unfolding units_from
  packet_asked body_sid body_offset unit x k s first index n i from up at =
      let z = k.zone in
      let part = zone_part body_sid k.place z k.zone_is in
      let offsets = packet_offsets notes in
      let start = z.body_offset + (n.offset - z.origin) in
      let one = (start + (s.unit_bytes - 1)) / s.unit_bytes in
      let below : is_in_zone z n.offset ≡ true = and_from (nat_le z.origin n.offset) _ (le-leb _ _ from) (by_limit z.limit refl) in
      let there : In n.offset (filter (is_in_zone z) offsets) = (In-filter (is_in_zone z) offsets n.offset).1 (
        (In-map (λ (m : NoteParts). m.offset) (clear_notes notes) n.offset).1 (n, i, refl),
        below,
      ) in
      let two = in_two k.index_sid unit s.index_sid one index at in
      let own : In (k.index_sid, unit) (units_from s start) =
      (In-filter is_number ((s.index_sid, one) ∷ (s.index_sid, one + 1) ∷ []) (k.index_sid, unit)).1 (two, lt-ltb _ _ k.number) in
      let all : In (k.index_sid, unit) (units_at (filter (is_in_zone z) offsets) z s) =
      (In-flat_map (λ y. units_from s (z.body_offset + (y - z.origin))) (filter (is_in_zone z) offsets) (k.index_sid, unit)).1
      (n.offset, there, own) in
      let of_part : In (k.index_sid, unit) (units_of_part offsets sized part.0) =
      subst (λ l. In (k.index_sid, unit) l)
      (sym (ap (λ o. units_by offsets o (first_of part.0.body_sid sized)) part.3
      ∙ ap (λ b. units_by offsets (Some z) (first_of b sized)) part.2 ∙ ap (units_by offsets (Some z)) first)) all in
      among (k.index_sid, unit) (inr ((In-flat_map (units_of_part offsets sized) (parts_of notes) (k.index_sid, unit)).1
      (part.0, part.1, of_part)))
    where
      by_limit : (o : Option ℕ) → k.zone.limit ≡ o → option_map_or (λ e. nat_lt n.offset e) o true ≡ true
      by_limit None e = refl
      by_limit (Some l) e = let b = k.below l e in lt-ltb n.offset l (omega (arith, b, up))

  pub member : (u : ℕ × ℕ) → (In u asked) ⊎ (In u asked → ⊥)
  member u = by (list_any (λ v. (v.0 == u.0) && (v.1 == u.1)) asked) refl
    where
      by : (b : Bool) → list_any (λ v. (v.0 == u.0) && (v.1 == u.1)) asked ≡ b → (In u asked) ⊎ (In u asked → ⊥)
      by true e =
          let s = (list_any-In (λ (v : ℕ × ℕ). (v.0 == u.0) && (v.1 == u.1)) asked).0 e in
          let p = and_parts (s.0.0 == u.0) (s.0.1 == u.1) s.2 in
          let a = eqb-true s.0.0 u.0 p.0 in
          let c = eqb-true s.0.1 u.1 p.1 in
          let same : s.0 ≡ u = λ j. (a j, c j) in
          inl (subst (λ v. In v asked) same s.1)
      by false e = inr (λ i.
          let t = (list_any-In (λ (v : ℕ × ℕ). (v.0 == u.0) && (v.1 == u.1)) asked).1 (
            u,
            i,
            and_from (u.0 == u.0) (u.1 == u.1) (eq-eqb u.0 u.0 refl) (eq-eqb u.1 u.1 refl),
          ) in cc (t, e))

-- ---- Units that segments cover

one_of : (a b : Bool) → (a || b) ≡ true → (a ≡ true) ⊎ (b ≡ true)
one_of true b t = inl refl
one_of false b t = inr t

-- The unit before one that is covered is covered, unless that is the first.
before_covered : (start duration unit low : ℕ) → (nat_le start unit && (duration == 0 || nat_lt unit (start + duration))) ≡ true
    → unit ≡ low + 1 → unit ≢ start → (nat_le start low && (duration == 0 || nat_lt low (start + duration))) ≡ true
before_covered start duration unit low t e apart =
    let p = and_parts (nat_le start unit) (duration == 0 || nat_lt unit (start + duration)) t in
    let from = leb-true _ _ p.0 in
    and_from (nat_le start low) (duration == 0 || nat_lt low (start + duration)) (le-leb _ _ (omega (arith, from, e, apart)))
    (either (duration == 0) (nat_lt low (start + duration)) (elim (one_of (duration == 0) (nat_lt unit (start + duration)) p.1) [
      | inl z ↦ inl z
      | inr l ↦ inr (let m = ltb-true _ _ l in lt-ltb _ _ (omega (arith, m, e)))
    ]))

-- The unit behind one that is covered is covered, unless the segment ends there.
after_covered : (start duration unit low : ℕ) → (nat_le start low && (duration == 0 || nat_lt low (start + duration))) ≡ true
    → unit ≡ low + 1 → unit ≢ start + duration → (nat_le start unit && (duration == 0 || nat_lt unit (start + duration))) ≡ true
after_covered start duration unit low t e apart =
    let p = and_parts (nat_le start low) (duration == 0 || nat_lt low (start + duration)) t in
    let from = leb-true _ _ p.0 in
    and_from (nat_le start unit) (duration == 0 || nat_lt unit (start + duration)) (le-leb _ _ (omega (arith, from, e)))
    (either (duration == 0) (nat_lt unit (start + duration)) (elim (one_of (duration == 0) (nat_lt low (start + duration)) p.1) [
      | inl z ↦ inl z
      | inr l ↦ inr (let m = ltb-true _ _ l in lt-ltb _ _ (omega (arith, m, e, apart)))
    ]))

after_listed : (start duration count unit low : ℕ)
    → (nat_le start low && nat_lt low (start + duration) && nat_lt (low - start) count) ≡ true → unit ≡ low + 1
    → unit ≢ start + duration → unit ≢ start + count
    → (nat_le start unit && nat_lt unit (start + duration) && nat_lt (unit - start) count) ≡ true
after_listed start duration count unit low t e apart other =
    let p = three (nat_le start low) (nat_lt low (start + duration)) (nat_lt (low - start) count) t in
    let from = leb-true _ _ p.0 in
    let before = ltb-true _ _ p.1 in
    let within = ltb-true _ _ p.2 in
    three_from (nat_le start unit) (nat_lt unit (start + duration)) (nat_lt (unit - start) count)
    (le-leb start unit (omega (arith, from, e))) (lt-ltb unit (start + duration) (omega (arith, before, e, apart)))
    (lt-ltb (unit - start) count (omega (arith, from, within, e, other)))

sized_offset : (s : SegmentAtParts) (unit : ℕ) → 0 < s.segment.numbers.unit_bytes → covers_constant s.segment unit ≡ true
    → stream_offset s.segment unit ≡ Some (s.segment.numbers.unit_bytes * unit)
sized_offset s unit some covered =
    let size = if covers_constant s.segment unit then Some (s.segment.numbers.unit_bytes * unit) else None in
    let entry = if covers_entry s.segment unit
    then Some (entry_offset s.segment (unit - unsigned_abs s.segment.numbers.start)) else None in
    ap (λ b. if b then size else entry) (lt-ltb 0 s.segment.numbers.unit_bytes some)
    ∙ ap (λ b. if b then Some (s.segment.numbers.unit_bytes * unit) else None) covered

-- ---- A unit that isn't asked

module _ (notes : List NoteParts) (content : IsContent notes) (body_sid body_offset unit x : ℕ)
    (k : IsUnitAt notes body_sid body_offset unit x) (out : In (k.index_sid, unit) (asked notes content) → ⊥) where
  abbrev index_sid : ℕ
  index_sid = k.index_sid

  unlisted : IsListed notes index_sid unit → ⊥
  unlisted l = out (listed_asked notes content index_sid unit l)

  alike : AreSizedAlike notes index_sid body_sid
  alike = elim k.sized [ inl l ↦ absurd (unlisted l) | inr a ↦ a ]

  own : IsSizedUnit notes index_sid unit body_sid k.place
  own = given_sized notes index_sid unit (record { body_sid = body_sid; offset = k.place }) k.placed.given unlisted

  abbrev bytes : ℕ
  bytes = own.by.segment.numbers.unit_bytes

  first : (s : StreamIndex) × (first_of body_sid (stream_indexes (sized_segments notes)) ≡ Some s) × IsOfAsked notes index_sid body_sid s
  first = first_sized notes index_sid body_sid k.asked own.by own.sized

  same_bytes : first.0.unit_bytes ≡ bytes
  same_bytes = first.2.bytes ∙ alike first.2.by own.by first.2.sized own.sized

  some_bytes : 0 < first.0.unit_bytes
  some_bytes = let s = own.sized.sized in let e = same_bytes in omega (arith, s, e)

  place_is : k.place ≡ first.0.unit_bytes * unit
  place_is = own.place_is ∙ ap (λ n. n * unit) (sym same_bytes)

  above : k.zone.body_offset ≤ k.place
  above =
      let e = part_offset notes content body_sid k.place k.zone k.zone_is in
      let m = k.zone_is.1.begins.begins in omega (arith, e, m)

  abbrev from : NoteParts → ℕ
  from n = k.zone.body_offset + (n.offset - k.zone.origin)

  abbrev one : NoteParts → ℕ
  one n = (from n + (first.0.unit_bytes - 1)) / first.0.unit_bytes

  is_first : (n : NoteParts) → IsFirstFrom (from n) first.0.unit_bytes (one n)
  is_first n = first_from (from n) first.0.unit_bytes some_bytes

  -- It isn't one of the first two of a packet of the zone.
  not_one : (n : NoteParts) → In n (clear_notes notes) → k.zone.origin ≤ n.offset → n.offset ≤ x → unit ≢ one n
  not_one n i a b e = out (packet_asked notes content body_sid body_offset unit x k first.0 first.1 first.2.index n i a b (inl e))

  not_two : (n : NoteParts) → In n (clear_notes notes) → k.zone.origin ≤ n.offset → n.offset ≤ x → unit ≢ one n + 1
  not_two n i a b e = out (packet_asked notes content body_sid body_offset unit x k first.0 first.1 first.2.index n i a b (inr e))

  -- So no packet begins at it.
  pub not_good : BeginsPacket notes x → ⊥
  not_good b =
      let n = b.packet in
      let there = b.there in
      let at = k.at in
      let up = above in
      let is = is_first n in
      let reaches = is.reaches in
      let level : from n ≡ first.0.unit_bytes * unit = level_at k.zone.body_offset k.zone.origin k.place n.offset x there at up ∙ place_is in
      let low = is.least unit (omega (arith, level)) in
      let high : unit ≤ one n = elim (cases_lt (one n) unit) [
        | inr m ↦ m
        | inl m ↦
            let more = mul-add first.0.unit_bytes (one n) 1 in
            let grows = mul-le-mul_left first.0.unit_bytes (next_le (one n) unit m) in
            let some = some_bytes in
            absurd (too_high (from n) (first.0.unit_bytes * unit) (first.0.unit_bytes * one n) (first.0.unit_bytes * (one n + 1))
            (first.0.unit_bytes * 1) level reaches grows more (times_one first.0.unit_bytes) some)
      ] in
      not_one n ((In-clear_notes n notes).1 b.clear) (omega (arith, there, at)) (omega (arith, there)) (omega (arith, low, high))
    where
      level_at : (bo origin place offset y : ℕ) → offset ≡ y → y ≡ origin + (place - bo) → bo ≤ place
          → bo + (offset - origin) ≡ place
      level_at bo origin place offset y a b c = omega (arith, a, b, c)

      next_le : (a b : ℕ) → a < b → a + 1 ≤ b
      next_le a b l = omega (arith, l)

      times_one : (n : ℕ) → n * 1 ≡ n
      times_one n = omega arith

      too_high : {c : ℕ} (f cu co cn c1 : ℕ) → f ≡ cu → f ≤ co → cn ≤ cu → cn ≡ co + c1 → c1 ≡ c → 0 < c → ⊥
      too_high f cu co cn c1 a b d e g h = omega (arith, a, b, d, e, g, h)

  -- If it misses a packet, so does the one before.
  module _ (m : MissesPacket notes x) where
    abbrev n : NoteParts
    n = m.packet

    from_origin : k.zone.origin ≤ n.offset
    from_origin = elim (cases_lt n.offset k.zone.origin) [
      | inr l ↦ l
      | inl l ↦ absurd (
          let at = k.at in
          let before = m.before in
          let a = alone_of notes content body_sid k.place k.zone k.zone_is k.whole in
          let o = a.2 in
          one_clear notes n a.0 k.zone.origin m.clear a.1.held
          (record { from = omega (arith, l); before = omega (arith, at, before) })
          (record { from = omega (arith, o); before = omega (arith, o) }) (omega (arith, o, l)))
    ]

    below_place : from n < k.place
    below_place =
        let at = k.at in
        let a = m.above in
        let o = from_origin in
        let up = above in
        lower_from k.zone.body_offset k.zone.origin k.place n.offset x at a o up
      where
        lower_from : (bo origin place offset y : ℕ) → y ≡ origin + (place - bo) → offset < y → origin ≤ offset → bo ≤ place
            → bo + (offset - origin) < place
        lower_from bo origin place offset y a b c d = omega (arith, a, b, c, d)

    third : one n + 2 ≤ unit
    third =
        let a = m.above in
        let low = (is_first n).least unit (let b = below_place in let e = place_is in omega (arith, b, e)) in
        let i = (In-clear_notes n notes).1 m.clear in
        let p = not_one n i from_origin (omega (arith, a)) in
        let q = not_two n i from_origin (omega (arith, a)) in
        omega (arith, low, p, q)

    abbrev low : ℕ
    low = unit - 1

    next : unit ≡ low + 1
    next = let t = third in omega (arith, t)

    abbrev y : ℕ
    y = k.zone.origin + (bytes * low - k.zone.body_offset)

    up_place : k.place ≡ bytes * low + bytes
    up_place =
        own.place_is ∙ ap (λ u. bytes * u) next ∙ mul-add bytes low 1 ∙ ap (λ b. bytes * low + b) (times_one bytes)
      where
        times_one : (b : ℕ) → b * 1 ≡ b
        times_one b = omega arith

    from_low : from n < bytes * low
    from_low =
        let is = is_first n in
        let reaches = is.reaches in
        let t = third in
        let e = same_bytes in
        let grows = mul-le-mul_left bytes (next_le (one n) unit t) in
        let more = mul-add bytes (one n) 1 in
        let some = own.sized.sized in
        let same : first.0.unit_bytes * one n ≡ bytes * one n = ap (λ b. b * one n) e in
        below_low (from n) (first.0.unit_bytes * one n) (bytes * one n) (bytes * (one n + 1)) (bytes * low) (bytes * 1) bytes reaches
        same grows more (times_one bytes) some
      where
        next_le : (a b : ℕ) → a + 2 ≤ b → a + 1 ≤ b - 1
        next_le a b l = omega (arith, l)

        times_one : (b : ℕ) → b * 1 ≡ b
        times_one b = omega arith

        below_low : (f a b c d e g : ℕ) → f ≤ a → a ≡ b → c ≤ d → c ≡ b + e → e ≡ g → 0 < g → f < d
        below_low f a b c d e g h i j l o p = omega (arith, h, i, j, l, o, p)

    borders : (s : SegmentAtParts) → In s (segments_of notes) → s.segment.numbers.index_sid ≡ index_sid
        → (unit ≢ unsigned_abs s.segment.numbers.start)
        × (unit ≢ unsigned_abs s.segment.numbers.start + entry_count s.segment)
        × (unit ≢ unsigned_abs s.segment.numbers.start + unsigned_abs s.segment.numbers.duration)
    borders s i e = (
      λ f. out (border_asked notes content index_sid unit s i e (inl f)),
      λ f. out (border_asked notes content index_sid unit s i e (inr (inl f))),
      λ f. out (border_asked notes content index_sid unit s i e (inr (inr f))),
    )

    low_given : IsGiven (segments_of notes) index_sid low (record { body_sid = body_sid; offset = bytes * low })
    low_given =
        let s = own.by in
        let z = own.sized in
        let b = borders s z.held z.index in record {
          by = s;
          held = z.held;
          index = z.index;
          body = z.body;
          offset = sized_offset s low z.sized (before_covered (unsigned_abs s.segment.numbers.start)
              (unsigned_abs s.segment.numbers.duration) unit low own.covered next b.0);
        }

    low_only : (p : StreamPlace) → IsGiven (segments_of notes) index_sid low p
        → (p.body_sid ≡ body_sid) × (p.offset ≡ bytes * low)
    low_only p g =
        by_size (is_constant g.by.segment.numbers) (covers_constant g.by.segment low) (covers_entry g.by.segment low) refl refl refl
        g.offset
      where
        by_size : (a b c : Bool) → is_constant g.by.segment.numbers ≡ a → covers_constant g.by.segment low ≡ b
            → covers_entry g.by.segment low ≡ c
            → (if a then (if b then Some (g.by.segment.numbers.unit_bytes * low) else None)
            else (if c then Some (entry_offset g.by.segment (low - unsigned_abs g.by.segment.numbers.start)) else None)) ≡ Some p.offset
            → (p.body_sid ≡ body_sid) × (p.offset ≡ bytes * low)
        by_size true true c e f h o =
            let some = ltb-true 0 g.by.segment.numbers.unit_bytes e in
            let b = borders g.by g.held g.index in
            let at = k.placed.only (record { body_sid = g.by.segment.numbers.body_sid; offset = g.by.segment.numbers.unit_bytes * unit }) (record {
              by = g.by;
              held = g.held;
              index = g.index;
              body = refl;
              offset = sized_offset g.by unit some (after_covered (unsigned_abs g.by.segment.numbers.start) (unsigned_abs g.by.segment.numbers.duration) unit low f next b.2);
            }) in
            let same = alike g.by own.by (record { held = g.held; sized = some; index = g.index; body = at.0 }) own.sized in (
              sym g.body ∙ at.0,
              sym (same_Some (g.by.segment.numbers.unit_bytes * low) p.offset o) ∙ ap (λ (c : ℕ). c * low) same,
            )
        by_size true false c e f h o = absurd (cc (o))
        by_size false b false e f h o = absurd (cc (o))
        by_size false b true e f h o =
            let d = borders g.by g.held g.index in
            let covered = after_listed (unsigned_abs g.by.segment.numbers.start) (unsigned_abs g.by.segment.numbers.duration) (entry_count g.by.segment) unit low h next d.2 d.1 in
            absurd (unlisted (record {
              by = g.by;
              held = g.held;
              index = g.index;
              entry = entry_at g.by.segment (unit - unsigned_abs g.by.segment.numbers.start);
              entry_is = ap (λ a. if a then None else (if covers_entry g.by.segment unit
                  then Some (entry_at g.by.segment (unit - unsigned_abs g.by.segment.numbers.start)) else None)) e
                  ∙ ap (λ c. if c then Some (entry_at g.by.segment (unit - unsigned_abs g.by.segment.numbers.start)) else None) covered;
            }))

    pub lower : (v : ℕ) × (unit ≡ v + 1) × (w : ℕ) × IsUnitAt notes body_sid body_offset v w × MissesPacket notes w
    lower =
        let up = up_place in
        let from = from_low in
        let o = from_origin in
        let at = k.at in
        let some = own.sized.sized in
        let lower_at : y < x = lower_at k.zone.body_offset k.zone.origin k.place n.offset (bytes * low) bytes at up from o some in
        let number = k.number in
        let t = third in
        let a = m.above in
        let before = m.before in (
          low,
          next,
          y,
          record {
            number = omega (arith, number, t);
            index_sid = index_sid;
            asked = k.asked;
            place = bytes * low;
            placed = record { given = low_given; only = low_only };
            sized = inr alike;
            zone = k.zone;
            zone_is = lower_zone notes content body_sid (bytes * low) k.place k.zone (omega (arith, up)) (omega (arith, from)) k.zone_is;
            part = k.part;
            whole = λ p f last. k.whole p f (last_up notes content body_sid (bytes * low) k.place k.zone (omega (arith, up))
                (omega (arith, from)) k.zone_is p last);
            at = refl;
            below = λ limit e. let b = k.below limit e in omega (arith, b, lower_at);
            sure = elim k.sure [
              | inl s ↦ inl s
              | inr held ↦ inr (λ z f b. held z f (omega (arith, b, lower_at)))
            ];
          },
          record {
            packet = n;
            clear = m.clear;
            above = over_at k.zone.body_offset k.zone.origin n.offset (bytes * low) from o;
            before = omega (arith, lower_at, before);
            leads = m.leads;
          },
        )
      where
        lower_at : (bo origin place offset low bytes : ℕ) → x ≡ origin + (place - bo) → place ≡ low + bytes
            → bo + (offset - origin) < low → origin ≤ offset → 0 < bytes → origin + (low - bo) < x
        lower_at bo origin place offset low bytes a b c d e = omega (arith, a, b, c, d, e)

        over_at : (bo origin offset low : ℕ) → bo + (offset - origin) < low → origin ≤ offset → offset < origin + (low - bo)
        over_at bo origin offset low c d = omega (arith, c, d)
