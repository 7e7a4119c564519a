-- Where units begin, by the test and in words.
use Rattle.mxf_views.proofs.Common.{◌≡◌, ◌≢◌, ◌∙◌, ◌↔◌, ◌⊎◌, ◌<◌, ◌≤◌, ◌+◌, ◌-◌, ◌*◌, ◌^◌, ◌==◌, ◌&&◌, ◌||◌, ℕ, Bool, true, false, not}
use Rattle.mxf_views.proofs.Common.{List, Option, None, Some, Result, Ok, Err, refl, sym, ap, subst, inl, inr, arith}
use Rattle.mxf_views.proofs.Common.{eq-eqb, eqb-true, and_from, and_parts, find, found-In, none_found, is_some}
use Rattle.mxf_views.proofs.Common.{lt-ltb, ltb-true, nat_lt, NoteParts, SegmentAtParts, segments_of, either, same_Some, IsCatalogue, greatest_end}
use Rattle.mxf_views.proofs.Common.{if◌then◌else◌, undisputed_notes, In-undisputed_notes, IsGiven, IsOnlyPlace, is_constant}
use Rattle.mxf_views.proofs.Common.{covers_constant, covers_entry, entry_offset, unsigned_abs}
use Rattle.mxf_sets.specs.Offset.{entry_at}
use Rattle.mxf_views.specs.declared.index.place.StreamPlace.{StreamPlace}
use Rattle.mxf_views.proofs.Common.{IsContent, PartitionParts, end_of}
use Rattle.mxf_views.proofs.PartitionSearch.{one_partition}
use Rattle.mxf_units.specs.EssenceZones.{parts_of, zone_at, zone_by, zone_of}
use Rattle.mxf_units.specs.Limits.{IsAlone, IsClipWrapped, IsEssenceZone, IsFirstPacket}
use Rattle.mxf_units.specs.Standings.{AllHeld, IsLast, IsZone}
use Rattle.mxf_units.proofs.LimitLaws.{first-says, zone-by}
use Rattle.mxf_units.specs.Streams.{place_of, segments_for}
use Rattle.mxf_units.specs.Units.{are_all_held, file_offset}
use Rattle.mxf_units.specs.declared.essence_zone.EssenceZone.{EssenceZone}
use Rattle.mxf_units.specs.declared.standing.UnitStanding.{UnitStanding}
use Rattle.mxf_units.specs.declared.standing.UnitStanding.TheVariants as standings
use Rattle.mxf_units.proofs.OneStanding.{one-zone}
use Rattle.mxf_units.proofs.RangeLaws.{all_held-says}
use Rattle.mxf_units.proofs.StandingPlaces.{IsPlacing, placing}
use Rattle.mxf_units.proofs.StandingZones.{zone-says}
use Rattle.mxf_doubts.specs.declared.starts.UnitStart.{UnitStart}
use Rattle.mxf_doubts.specs.DoubtCauses.{AreSizedAlike, BeginsPacket, IsAskedIndex, IsListed, IsSizedIn, IsUnitAt, MissesPacket}
use Rattle.mxf_doubts.specs.UnitStarts.{begins_alone, begins_packet, counts, is_asked, is_below, is_inside, is_listed, is_number}
use Rattle.mxf_doubts.specs.UnitStarts.{is_uneven, misses_packet, start_at, start_by, start_in, start_of}
use Rattle.mxf_doubts.proofs.EndLaws.{zone_tells}
use Rattle.mxf_doubts.proofs.IndexLaws.{asked, even, listed, uneven}
use Rattle.mxf_doubts.proofs.MissLaws.{begins, far, misses}

-- ---- Tests of two cases

pub guarded : {A : Type 0} (b : Bool) (o : Option A) (x : A) → (if b then o else None) ≡ Some x → (b ≡ true) × (o ≡ Some x)
guarded true o x e = (refl, e)
guarded false o x e = absurd (cc (e))

one_of : (a b : Bool) → (a || b) ≡ true → (a ≡ true) ⊎ (b ≡ true)
one_of true b t = inl refl
one_of false b t = inr t

module _ (notes : List NoteParts) where
  -- ---- In a zone

  pub record IsInside (z : EssenceZone) (x : ℕ) : Type 0 where
    pub first : NoteParts
    pub alone : IsAlone notes first
    pub origin : first.offset ≡ z.origin
    pub below : (limit : ℕ) → z.limit ≡ Some limit → x < limit
    pub sure : (z.is_sure ≡ true) ⊎ AllHeld notes z.origin (x + 1)

  found_alone : (x : ℕ) (o : Option NoteParts) → find (λ n. n.offset == x) (undisputed_notes notes) ≡ o → is_some o ≡ true
      → (n : NoteParts) × IsAlone notes n × (n.offset ≡ x)
  found_alone x None e t = absurd (cc (t))
  found_alone x (Some n) e t =
      let f = found-In (λ (n : NoteParts). n.offset == x) (undisputed_notes notes) n e in
      let u = (In-undisputed_notes n notes).0 f.0 in
      (n, record { held = u.0; undisputed = u.1 }, eqb-true n.offset x f.1)

  alone_found : (x : ℕ) (o : Option NoteParts) → find (λ n. n.offset == x) (undisputed_notes notes) ≡ o → (n : NoteParts)
      → IsAlone notes n → n.offset ≡ x → is_some o ≡ true
  alone_found x (Some m) e n a at = refl
  alone_found x None e n a at =
      absurd (none_found (λ (n : NoteParts). n.offset == x) (undisputed_notes notes) n e
      ((In-undisputed_notes n notes).1 (a.held, a.undisputed)) (eq-eqb n.offset x at))

  below_says : (x : ℕ) (o : Option ℕ) → is_below x o ≡ true → (limit : ℕ) → o ≡ Some limit → x < limit
  below_says x None t limit e = absurd (cc (e))
  below_says x (Some l) t limit e = subst (λ y. x < y) (same_Some l limit e) (ltb-true x l t)

  says_below : (x : ℕ) (o : Option ℕ) → ((limit : ℕ) → o ≡ Some limit → x < limit) → is_below x o ≡ true
  says_below x None f = refl
  says_below x (Some l) f = lt-ltb x l (f l refl)

  pub inside : (z : EssenceZone) (x : ℕ) → (is_inside notes z x ≡ true) ↔ IsInside z x
  inside z x =
      let held = all_held-says notes z.origin (x + 1) in (
        λ t.
            let p = and_parts (begins_alone notes z.origin) (is_below x z.limit && (z.is_sure || are_all_held notes z.origin (x + 1))) t in
            let q = and_parts (is_below x z.limit) (z.is_sure || are_all_held notes z.origin (x + 1)) p.1 in
            let a = found_alone z.origin (find (λ n. n.offset == z.origin) (undisputed_notes notes)) refl p.0 in record {
              first = a.0;
              alone = a.1;
              origin = a.2;
              below = below_says x z.limit q.0;
              sure = elim (one_of z.is_sure (are_all_held notes z.origin (x + 1)) q.1) [ inl e ↦ inl e | inr e ↦ inr (held.0 e) ];
            },
        λ k. and_from (begins_alone notes z.origin) (is_below x z.limit && (z.is_sure || are_all_held notes z.origin (x + 1)))
            (alone_found z.origin (find (λ n. n.offset == z.origin) (undisputed_notes notes)) refl k.first k.alone k.origin)
            (and_from (is_below x z.limit) (z.is_sure || are_all_held notes z.origin (x + 1)) (says_below x z.limit k.below)
            (either z.is_sure (are_all_held notes z.origin (x + 1)) (elim k.sure [ inl e ↦ inl e | inr h ↦ inr (held.1 h) ]))),
      )

  -- ---- Partitions whose units don't all lie in one packet

  abbrev pub IsWhole : ℕ → ℕ → Type 0
  IsWhole body_sid place =
      (p : PartitionParts) (n : NoteParts) → IsLast notes body_sid place p → IsFirstPacket notes p n → IsClipWrapped notes p n → ⊥

  -- Their first packet begins at the origin.
  pub alone_of : IsContent notes → (body_sid place : ℕ) (z : EssenceZone) → IsZone notes body_sid place (Ok z)
      → IsWhole body_sid place → (n : NoteParts) × IsAlone notes n × (n.offset ≡ z.origin)
  alone_of content body_sid place z zone whole =
      let t = (zone_tells notes content zone.0 z).0 zone.2 in
      (t.0, t.1.alone, sym (t.2.origin (whole zone.0 t.0 zone.1 t.1)))

  -- In the only packet of a partition no other begins.
  no_clip : IsContent notes → (z : EssenceZone) (x : ℕ) (p : PartitionParts) (n a : NoteParts) → zone_of notes p ≡ Some z
      → IsFirstPacket notes p n → IsClipWrapped notes p n → IsAlone notes a → a.offset ≡ z.origin → z.origin ≤ x
      → ((limit : ℕ) → z.limit ≡ Some limit → x < limit) → ⊥
  no_clip content z x p n a zone first clip alone origin up below =
      let t = (zone_tells notes content p z).0 zone in
      let same : t.0 ≡ n = same_Some t.0 n (sym ((first-says notes content p t.0).1 t.1) ∙ (first-says notes content p n).1 first) in
      let is : IsEssenceZone notes p n z = subst (λ (m : NoteParts). IsEssenceZone notes p m z) same t.2 in
      let clipped = is.clip clip in
      let at = ap (λ (y : EssenceZone). y.origin) clipped in
      let end = below (end_of n) (ap (λ (y : EssenceZone). y.limit) clipped) in
      first.alone.undisputed (
        a,
        alone.held,
        λ e. (let o = ap (λ (m : NoteParts). m.offset) e in omega (arith, o, origin, at)),
        (
          z.origin,
          record { from = omega (arith, origin); before = omega (arith, origin) },
          record { from = omega (arith, at); before = omega (arith, up, end) },
        ),
      )

  whole_of : IsContent notes → (body_sid place : ℕ) (z : EssenceZone) (x : ℕ) → IsZone notes body_sid place (Ok z)
      → (a : NoteParts) → IsAlone notes a → a.offset ≡ z.origin → z.origin ≤ x
      → ((limit : ℕ) → z.limit ≡ Some limit → x < limit) → IsWhole body_sid place
  whole_of content body_sid place z x zone a alone origin up below p n last first clip =
      elim (p.offset == zone.0.offset) as (λ b. (p.offset == zone.0.offset) ≡ b → ⊥) [
        | true ↦ λ t.
            let same = one_partition notes p zone.0 last.begins.partition zone.1.begins.partition (eqb-true _ _ t) in
            no_clip content z x p n a (ap (zone_of notes) same ∙ zone.2) first clip alone origin up below
        | false ↦ λ t.
            let apart : p ≢ zone.0 = λ e.
            let s = eq-eqb p.offset zone.0.offset (ap (λ (q : PartitionParts). q.offset) e) in cc (s, t) in
            let some = (zone_tells notes content p (zone_by notes p n)).1 (n, first, zone-by notes p n) in
            let none = zone.3 p last apart in
            let e : Some (zone_by notes p n) ≡ None = sym some ∙ none in cc (e)
      ] refl

  -- ---- What a start says

  pub record IsStartOf (index_sid : ℕ) (s : UnitStart) : Type 0 where
    pub lies : IsUnitAt notes s.body_sid s.body_offset s.unit s.offset
    pub index : IsAskedIndex notes s.body_sid index_sid
    pub told : ((s.is_good ≡ true) × BeginsPacket notes s.offset) ⊎ ((s.is_good ≡ false) × MissesPacket notes s.offset)

  abbrev made : ℕ → ℕ → EssenceZone → ℕ → UnitStart
  made body_sid unit z x = record {
    body_sid = body_sid;
    body_offset = z.body_offset;
    unit = unit;
    offset = x;
    is_good = begins_packet notes x;
  }

  told_by : (x : ℕ) → (begins_packet notes x || misses_packet notes x) ≡ true
      → ((begins_packet notes x ≡ true) × BeginsPacket notes x) ⊎ ((begins_packet notes x ≡ false) × MissesPacket notes x)
  told_by x t = elim (begins_packet notes x) as (λ b. begins_packet notes x ≡ b → (b || misses_packet notes x) ≡ true
      → ((begins_packet notes x ≡ true) × BeginsPacket notes x) ⊎ ((begins_packet notes x ≡ false) × MissesPacket notes x)) [
        | true ↦ λ e u. inl (e, (begins notes x).0 e)
        | false ↦ λ e u. inr (e, (misses notes x).0 u)
      ] refl t

  start_zone : IsContent notes → (index_sid unit : ℕ) (p : StreamPlace) (s : UnitStart) → nat_lt unit (2 ^ 64) ≡ true
      → IsOnlyPlace (segments_of notes) index_sid unit p.body_sid p.offset → counts notes index_sid unit p.body_sid ≡ true
      → (r : Result EssenceZone UnitStanding) → IsZone notes p.body_sid p.offset r → start_in notes unit p r ≡ Some s
      → IsStartOf index_sid s × (s.unit ≡ unit)
  start_zone content index_sid unit p s number only c (Err standing) zone e = absurd (cc (e))
  start_zone content index_sid unit p s number only c (Ok z) zone e =
      let x = file_offset z p.offset in
      let g = guarded (is_inside notes z x && (begins_packet notes x || misses_packet notes x)) (Some (made p.body_sid unit z x)) s e in
      let own : made p.body_sid unit z x ≡ s = same_Some (made p.body_sid unit z x) s g.1 in
      let both = and_parts (is_inside notes z x) (begins_packet notes x || misses_packet notes x) g.0 in
      let k = (inside z x).0 both.0 in
      let cc2 = and_parts (is_asked notes index_sid p.body_sid) (is_listed notes index_sid unit || not (is_uneven notes p.body_sid)) c in
      let index = (asked notes index_sid p.body_sid).0 cc2.0 in
      let sized : IsListed notes index_sid unit ⊎ AreSizedAlike notes index_sid p.body_sid =
      elim (one_of (is_listed notes index_sid unit) (not (is_uneven notes p.body_sid)) cc2.1) [
        | inl l ↦ inl ((listed notes index_sid unit).0 l)
        | inr u ↦ inr (even notes index_sid p.body_sid index (not-even (is_uneven notes p.body_sid) u))
      ] in
      subst (λ (t : UnitStart). IsStartOf index_sid t × (t.unit ≡ unit)) own (
        record {
          lies = record {
            number = ltb-true _ _ number;
            index_sid = index_sid;
            asked = index;
            place = p.offset;
            placed = only;
            sized = sized;
            zone = z;
            zone_is = zone;
            part = refl;
            whole = whole_of content p.body_sid p.offset z x zone k.first k.alone k.origin (omega arith) k.below;
            at = refl;
            below = k.below;
            sure = k.sure;
          };
          index = index;
          told = told_by x both.1;
        },
        refl,
      )
    where
      not-even : (b : Bool) → not b ≡ true → b ≡ false
      not-even true t = absurd (cc (t))
      not-even false t = refl

  start_place : IsContent notes → (index_sid unit : ℕ) (s : UnitStart) → nat_lt unit (2 ^ 64) ≡ true → (r : Result StreamPlace UnitStanding)
      → IsPlacing notes index_sid unit r → start_at notes index_sid unit r ≡ Some s → IsStartOf index_sid s × (s.unit ≡ unit)
  start_place content index_sid unit s number (Err standing) w e = absurd (cc (e))
  start_place content index_sid unit s number (Ok p) w e =
      let g = guarded (counts notes index_sid unit p.body_sid)
      (start_in notes unit p (zone_at (parts_of notes) p.body_sid p.offset)) s e in
      start_zone content index_sid unit p s number w g.0 (zone_at (parts_of notes) p.body_sid p.offset)
      (zone-says notes p.body_sid p.offset) g.1

  pub start_says : IsContent notes → (u : ℕ × ℕ) (s : UnitStart) → start_of notes u ≡ Some s → IsStartOf u.0 s × (s.unit ≡ u.1)
  unfolding start_of
  start_says content u s e =
      let g = guarded (is_number u) (start_at notes u.0 u.1 (place_of (segments_for notes u.0) u.1)) s e in
      start_place content u.0 u.1 s g.0 (place_of (segments_for notes u.0) u.1) (placing notes u.0 u.1) g.1

  -- ---- A unit that lies somewhere has a start

  only_placed : (index_sid unit body_sid place : ℕ) → IsOnlyPlace (segments_of notes) index_sid unit body_sid place
      → (r : Result StreamPlace UnitStanding) → IsPlacing notes index_sid unit r
      → r ≡ Ok (record { body_sid = body_sid; offset = place })
  only_placed index_sid unit body_sid place only (Ok p) w =
      let e = w.only (record { body_sid = body_sid; offset = place }) only.given in
      let body = e.0 in
      let at = e.1 in
      λ i. Ok (record { body_sid = sym body i; offset = sym at i })
  only_placed index_sid unit body_sid place only (Err standings.NotIndexed) w =
      absurd (w (record { body_sid = body_sid; offset = place }) only.given)
  only_placed index_sid unit body_sid place only (Err standings.Ambiguous) w =
      let a = only.only w.0 w.2 in
      let b = only.only w.1 w.3 in
      let body = a.0 ∙ sym b.0 in
      let at = a.1 ∙ sym b.1 in
      absurd (w.4 (λ i. record { body_sid = body i; offset = at i }))
  only_placed index_sid unit body_sid place only (Err standings.NoPartition) w = absurd w
  only_placed index_sid unit body_sid place only (Err standings.Unknown) w = absurd w
  only_placed index_sid unit body_sid place only (Err standings.Several) w = absurd w
  only_placed index_sid unit body_sid place only (Err standings.Elsewhere) w = absurd w
  only_placed index_sid unit body_sid place only (Err standings.Unsure) w = absurd w
  only_placed index_sid unit body_sid place only (Err standings.Disputed) w = absurd w
  only_placed index_sid unit body_sid place only (Err standings.Missing) w = absurd w
  only_placed index_sid unit body_sid place only (Err standings.Part) w = absurd w
  only_placed index_sid unit body_sid place only (Err standings.Held) w = absurd w
  only_placed index_sid unit body_sid place only (Err standings.Hand) w = absurd w

  -- A unit that no segment lists is given by a segment of units of one size.
  pub record IsSizedUnit (index_sid unit body_sid place : ℕ) : Type 0 where
    pub by : SegmentAtParts
    pub sized : IsSizedIn notes index_sid body_sid by
    pub covered : covers_constant by.segment unit ≡ true
    pub place_is : place ≡ by.segment.numbers.unit_bytes * unit

  pub given_sized : (index_sid unit : ℕ) (p : StreamPlace) → IsGiven (segments_of notes) index_sid unit p
      → (IsListed notes index_sid unit → ⊥) → IsSizedUnit index_sid unit p.body_sid p.offset
  given_sized index_sid unit p g unlisted =
      by_size (is_constant g.by.segment.numbers) (covers_constant g.by.segment unit) (covers_entry g.by.segment unit) refl refl refl
      g.offset
    where
      by_size : (a b c : Bool) → is_constant g.by.segment.numbers ≡ a → covers_constant g.by.segment unit ≡ b
          → covers_entry g.by.segment unit ≡ c
          → (if a then (if b then Some (g.by.segment.numbers.unit_bytes * unit) else None)
          else (if c then Some (entry_offset g.by.segment (unit - unsigned_abs g.by.segment.numbers.start)) else None)) ≡ Some p.offset
          → IsSizedUnit index_sid unit p.body_sid p.offset
      by_size true true c e f h t = record {
        by = g.by;
        sized = record { held = g.held; sized = ltb-true _ _ e; index = g.index; body = g.body };
        covered = f;
        place_is = sym (same_Some (g.by.segment.numbers.unit_bytes * unit) p.offset t);
      }
      by_size true false c e f h t = absurd (cc (t))
      by_size false b false e f h t = absurd (cc (t))
      by_size false b true e f h t = absurd (unlisted (record {
        by = g.by;
        held = g.held;
        index = g.index;
        entry = entry_at g.by.segment (unit - unsigned_abs g.by.segment.numbers.start);
        entry_is = ap (λ a. if a then None else (if covers_entry g.by.segment unit
            then Some (entry_at g.by.segment (unit - unsigned_abs g.by.segment.numbers.start)) else None)) e
            ∙ ap (λ c. if c then Some (entry_at g.by.segment (unit - unsigned_abs g.by.segment.numbers.start)) else None) h;
      }))

  pub lying_start : IsContent notes → (body_sid body_offset unit x : ℕ) (k : IsUnitAt notes body_sid body_offset unit x)
      → BeginsPacket notes x ⊎ MissesPacket notes x
      → start_of notes (k.index_sid, unit) ≡ Some (record {
        body_sid = body_sid;
        body_offset = body_offset;
        unit = unit;
        offset = x;
        is_good = begins_packet notes x;
      })
  unfolding start_of
  lying_start content body_sid body_offset unit x k b =
      let i = k.index_sid in
      let p : StreamPlace = record { body_sid = body_sid; offset = k.place } in
      let place = only_placed i unit body_sid k.place k.placed (place_of (segments_for notes i) unit) (placing notes i unit) in
      let zone = one-zone notes body_sid k.place (zone_at (parts_of notes) body_sid k.place) (Ok k.zone)
      (zone-says notes body_sid k.place) k.zone_is in
      let a = alone_of content body_sid k.place k.zone k.zone_is k.whole in
      let y = file_offset k.zone k.place in
      let at : y ≡ x = sym k.at in
      let counted : counts notes i unit body_sid ≡ true =
      and_from (is_asked notes i body_sid) (is_listed notes i unit || not (is_uneven notes body_sid))
      ((asked notes i body_sid).1 k.asked) (by_listed (is_listed notes i unit) refl) in
      let in_zone : is_inside notes k.zone x ≡ true = (inside k.zone x).1 (record {
        first = a.0;
        alone = a.1;
        origin = a.2;
        below = k.below;
        sure = k.sure;
      }) in
      let told : (begins_packet notes x || misses_packet notes x) ≡ true =
      either (begins_packet notes x) (misses_packet notes x)
      (elim b [ inl g ↦ inl ((begins notes x).1 g) | inr m ↦ inr ((misses notes x).1 m) ]) in
      ap (λ c. if c then start_at notes i unit (place_of (segments_for notes i) unit) else None) (lt-ltb unit (2 ^ 64) k.number)
      ∙ ap (start_at notes i unit) place
      ∙ ap (λ c. if c then start_in notes unit p (zone_at (parts_of notes) body_sid k.place) else None) counted
      ∙ ap (start_in notes unit p) zone
      ∙ ap (start_by notes body_sid unit k.zone) at
      ∙ ap (λ c. if c then Some (made body_sid unit k.zone x) else None)
      (and_from (is_inside notes k.zone x) (begins_packet notes x || misses_packet notes x) in_zone told)
      ∙ (let part = k.part in λ j. Some (record {
        body_sid = body_sid;
        body_offset = part j;
        unit = unit;
        offset = x;
        is_good = begins_packet notes x;
      }))
    where
      by_listed : (c : Bool) → is_listed notes k.index_sid unit ≡ c
          → (is_listed notes k.index_sid unit || not (is_uneven notes body_sid)) ≡ true
      by_listed true e = either (is_listed notes k.index_sid unit) (not (is_uneven notes body_sid)) (inl e)
      by_listed false e =
          let unlisted : IsListed notes k.index_sid unit → ⊥ = λ l. (let t = (listed notes k.index_sid unit).1 l in cc (t, e)) in
          let alike : AreSizedAlike notes k.index_sid body_sid = elim k.sized [ inl l ↦ absurd (unlisted l) | inr a ↦ a ] in
          let s = given_sized k.index_sid unit (record { body_sid = body_sid; offset = k.place }) k.placed.given unlisted in
          either (is_listed notes k.index_sid unit) (not (is_uneven notes body_sid))
          (inr (ap not (uneven notes k.index_sid body_sid k.asked s.by s.sized alike)))

  -- Nothing begins behind the greatest end.
  pub far_start : (body_sid unit : ℕ) (z : EssenceZone) (x : ℕ) → IsCatalogue notes → greatest_end ≤ x
      → start_by notes body_sid unit z x ≡ None
  far_start body_sid unit z x is l =
      ap (λ c. if (is_inside notes z x && c) then Some (made body_sid unit z x) else None) (far notes x is l)
      ∙ never (is_inside notes z x)
    where
      never : (b : Bool) → (if (b && false) then Some (made body_sid unit z x) else None) ≡ None
      never true = refl
      never false = refl
