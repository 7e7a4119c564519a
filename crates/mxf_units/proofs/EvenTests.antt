-- When edit units lie side by side, by the tests.
use Rattle.mxf_views.proofs.Common.{◌≡◌, ◌≢◌, ◌∙◌, ◌*◌, ◌^◌, ◌<◌, ◌==◌, ℕ, Bool, true, false, Option, None}
use Rattle.mxf_views.proofs.Common.{Some, Result, Ok, Err, List, [], ◌∷◌, ap, inl, inr, refl, subst, sym, In}
use Rattle.mxf_views.proofs.Common.{IsOnlyPlace, NoteParts, SegmentAtParts, segments_of, stream_offset}
use Rattle.mxf_views.proofs.Common.{and_from, and_parts, eq-eqb, eqb-true, if◌then◌else◌, is_some, list_all-In, list_any}
use Rattle.mxf_views.proofs.Common.{list_any-In, same_Some}
use Rattle.std.specs.Prelude.{IfNone}
use Rattle.std.specs.List.{list_all}
use Rattle.mxf_views.specs.declared.index.place.StreamPlace.{StreamPlace}
use Rattle.mxf_units.specs.EvenUnits.{AreEven, AreOfSize, EvenParts, common_size, has_both, is_of_size, told_zone, told_zone_by}
use Rattle.mxf_units.specs.EssenceZones.{parts_of, zone_at}
use Rattle.mxf_units.specs.Extents.{IsTold}
use Rattle.mxf_units.specs.Repeated.{SayAll}
use Rattle.mxf_units.specs.Standings.{IsZone}
use Rattle.mxf_units.specs.Streams.{place_of, segments_for}
use Rattle.mxf_units.specs.Units.{UnitsParts, is_told, location_at, location_in, location_of, standing_by, standing_in}
use Rattle.mxf_units.specs.Units.{end_place, extent_in, unit_of}
use Rattle.mxf_units.specs.declared.essence_zone.EssenceZone.{EssenceZone}
use Rattle.mxf_units.specs.declared.location.Location.{Location}
use Rattle.mxf_units.specs.declared.standing.UnitStanding.{UnitStanding}
use Rattle.mxf_units.specs.declared.standing.UnitStanding.TheVariants as standings
use Rattle.mxf_units.proofs.EvenLaws.{sized}
use Rattle.mxf_units.proofs.ExtentLaws.{says-told, told-says}
use Rattle.mxf_units.proofs.NextLaws.{of_index}
use Rattle.mxf_units.proofs.OneStanding.{one-zone}
use Rattle.mxf_units.proofs.StandingPlaces.{IsPlacing, placing}
use Rattle.mxf_units.proofs.StandingZones.{zone-says}

module _ (u : UnitsParts) where
  abbrev notes : List NoteParts
  notes = u.known.notes

  abbrev segments : List SegmentAtParts
  segments = segments_for notes u.index_sid

  abbrev standing_of : ℕ → UnitStanding
  standing_of k = (unit_of u.known u.index_sid k).standing

  -- ---- the zone of a unit that is told

  pub record IsToldIn (k : ℕ) (zone : EssenceZone) : Type 0 where
    pub told : IsTold (standing_of k)
    pub body_sid : ℕ
    pub offset : ℕ
    pub only : IsOnlyPlace (segments_of notes) u.index_sid k body_sid offset
    pub is_zone : IsZone notes body_sid offset (Ok zone)

  abbrev located : ℕ → StreamPlace → EssenceZone → Location
  located k p zone = record {
    zone = zone;
    extent = extent_in zone p.offset (end_place segments zone k p.body_sid p.offset);
  }

  -- What is told by its place.
  abbrev told_at : ℕ → Result StreamPlace UnitStanding → Option EssenceZone
  told_at k place = told_zone_by (standing_by u.known (location_at (parts_of notes) segments k place))
      (location_at (parts_of notes) segments k place)

  told_at_is : (k : ℕ) → told_zone u k ≡ told_at k (place_of segments k)
  unfolding unit_of location_of
  told_at_is k = refl

  stands_at : (k : ℕ)
      → standing_of k ≡ standing_by u.known (location_at (parts_of notes) segments k (place_of segments k))
  unfolding unit_of location_of
  stands_at k = refl

  abbrev told_in : ℕ → StreamPlace → Result EssenceZone UnitStanding → Option EssenceZone
  told_in k p zone = told_zone_by (standing_by u.known (location_in segments k p zone)) (location_in segments k p zone)

  pub told-in : (k : ℕ) (zone : EssenceZone) → told_zone u k ≡ Some zone → IsToldIn k zone
  told-in k zone h = by (place_of segments k) refl (placing notes u.index_sid k) (sym (told_at_is k) ∙ h)
    where
      guarded : (b : Bool) (y : EssenceZone) → (if b then Some y else None) ≡ Some zone → (b ≡ true) × (y ≡ zone)
      guarded true y e = (refl, same_Some y zone e)
      guarded false y e = absurd cc

      by_zone : (p : StreamPlace) (r : Result EssenceZone UnitStanding) → zone_at (parts_of notes) p.body_sid p.offset ≡ r
          → place_of segments k ≡ Ok p → IsOnlyPlace (segments_of notes) u.index_sid k p.body_sid p.offset
          → told_in k p r ≡ Some zone → IsToldIn k zone
      by_zone p (Err w) at place only e = absurd cc
      by_zone p (Ok y) at place only e =
          let g = guarded (is_told (standing_in u.known (located k p y))) y e in
          let stands = stands_at k
          ∙ ap (λ r. standing_by u.known (location_at (parts_of notes) segments k r)) place
          ∙ ap (λ r. standing_by u.known (location_in segments k p r)) at in
          record {
            told = told-says (standing_of k) (ap is_told stands ∙ g.0);
            body_sid = p.body_sid;
            offset = p.offset;
            only = only;
            is_zone = subst (λ r. IsZone notes p.body_sid p.offset r) (at ∙ ap (λ (z : EssenceZone). Ok z) g.1)
                (zone-says notes p.body_sid p.offset);
          }

      by : (place : Result StreamPlace UnitStanding) → place_of segments k ≡ place → IsPlacing notes u.index_sid k place
          → told_at k place ≡ Some zone → IsToldIn k zone
      by (Err w) at is e = absurd cc
      by (Ok p) at is e = by_zone p (zone_at (parts_of notes) p.body_sid p.offset) refl at is e

  pub in-told : (k : ℕ) (zone : EssenceZone) → IsToldIn k zone → told_zone u k ≡ Some zone
  in-told k zone t = told_at_is k ∙ by (place_of segments k) refl (placing notes u.index_sid k)
    where
      by_zone : (p : StreamPlace) (r : Result EssenceZone UnitStanding) → zone_at (parts_of notes) p.body_sid p.offset ≡ r
          → place_of segments k ≡ Ok p → r ≡ Ok zone → told_in k p r ≡ Some zone
      by_zone p (Err w) at place e = absurd cc
      by_zone p (Ok y) at place e =
          let stands = stands_at k
          ∙ ap (λ r. standing_by u.known (location_at (parts_of notes) segments k r)) place
          ∙ ap (λ r. standing_by u.known (location_in segments k p r)) at in
          let told : is_told (standing_in u.known (located k p y)) ≡ true =
          ap is_told (sym stands) ∙ says-told (standing_of k) t.told in
          let same : y ≡ zone = cc (e) in
          ap (λ b. if b then Some y else None) told ∙ ap (λ (z : EssenceZone). Some z) same

      by : (place : Result StreamPlace UnitStanding) → place_of segments k ≡ place → IsPlacing notes u.index_sid k place
          → told_at k place ≡ Some zone
      by (Ok p) at is =
          let same = is.only (record { body_sid = t.body_sid; offset = t.offset }) t.only.given in
          let here = subst (λ x. IsZone notes p.body_sid x (Ok zone)) same.1
          (subst (λ x. IsZone notes x t.offset (Ok zone)) same.0 t.is_zone) in
          by_zone p (zone_at (parts_of notes) p.body_sid p.offset) refl at
          (one-zone notes p.body_sid p.offset _ (Ok zone) (zone-says notes p.body_sid p.offset) here)
      by (Err standings.NotIndexed) at is = absurd (is _ t.only.given)
      by (Err standings.Ambiguous) at is =
          let p = t.only.only is.0 is.2 in
          let q = t.only.only is.1 is.3 in
          let body = p.0 ∙ sym q.0 in
          let offset = p.1 ∙ sym q.1 in
          absurd (is.4 (λ i. record { body_sid = body i; offset = offset i }))
      by (Err standings.NoPartition) at is = absurd is
      by (Err standings.Several) at is = absurd is
      by (Err standings.Unknown) at is = absurd is
      by (Err standings.Elsewhere) at is = absurd is
      by (Err standings.Unsure) at is = absurd is
      by (Err standings.Disputed) at is = absurd is
      by (Err standings.Missing) at is = absurd is
      by (Err standings.Part) at is = absurd is
      by (Err standings.Held) at is = absurd is
      by (Err standings.Hand) at is = absurd is

  -- ---- the size

  size_says : (xs : List SegmentAtParts) (r : ℕ × ℕ) → common_size xs ≡ Some r → AreOfSize xs r.0 r.1
  size_says [] r e s h = absurd h
  size_says (x ∷ xs) r e s h =
      let n = x.segment.numbers in
      elim (list_all (is_of_size n.unit_bytes n.body_sid) (x ∷ xs)) as (λ b.
      list_all (is_of_size n.unit_bytes n.body_sid) (x ∷ xs) ≡ b
      → (if b then Some (n.unit_bytes, n.body_sid) else None) ≡ Some r
      → (s.segment.numbers.unit_bytes ≡ r.0) × (s.segment.numbers.body_sid ≡ r.1)) [
        | true ↦ λ f g.
            let same = same_Some _ _ g in
            let p = list_all-In (is_of_size n.unit_bytes n.body_sid) (x ∷ xs) s f h in
            let q = and_parts (s.segment.numbers.unit_bytes == n.unit_bytes)
            (s.segment.numbers.body_sid == n.body_sid) p in
            (eqb-true _ _ q.0 ∙ ap (λ (t : ℕ × ℕ). t.0) same, eqb-true _ _ q.1 ∙ ap (λ (t : ℕ × ℕ). t.1) same)
        | false ↦ λ f g. absurd cc
      ] refl e

  -- Where all have one size, it is found.
  says_size : (xs : List SegmentAtParts) (size body_sid : ℕ) (s : SegmentAtParts) → In s xs → AreOfSize xs size body_sid
      → common_size xs ≢ None
  says_size [] size body_sid s h are e = absurd h
  says_size (x ∷ xs) size body_sid s h are e =
      let n = x.segment.numbers in
      let first = are x (inl refl) in
      let all : list_all (is_of_size n.unit_bytes n.body_sid) (x ∷ xs) ≡ true =
      all_are (x ∷ xs) (λ y i.
      let a = are y i in
      and_from (y.segment.numbers.unit_bytes == n.unit_bytes) (y.segment.numbers.body_sid == n.body_sid)
      (eq-eqb _ _ (a.0 ∙ sym first.0)) (eq-eqb _ _ (a.1 ∙ sym first.1))) in
      let f = ap (λ b. if b then Some (n.unit_bytes, n.body_sid) else None) all in
      let g = sym f ∙ e in cc (g)
    where
      all_are : (ys : List SegmentAtParts)
          → ((y : SegmentAtParts) → In y ys
          → is_of_size x.segment.numbers.unit_bytes x.segment.numbers.body_sid y ≡ true)
          → list_all (is_of_size x.segment.numbers.unit_bytes x.segment.numbers.body_sid) ys ≡ true
      all_are [] each = refl
      all_are (y ∷ ys) each =
          and_from (is_of_size x.segment.numbers.unit_bytes x.segment.numbers.body_sid y)
          (list_all (is_of_size x.segment.numbers.unit_bytes x.segment.numbers.body_sid) ys) (each y (inl refl))
          (all_are ys (λ z i. each z (inr i)))

  -- ---- both

  value_of : (o : Option ℕ) → is_some o ≡ true → (x : ℕ) × (o ≡ Some x)
  value_of None e = absurd cc
  value_of (Some x) e = (x, refl)

  abbrev parts : ℕ → ℕ → ℕ → EssenceZone → EvenParts
  parts first last size zone = record { units = u; first = first; last = last; size = size; zone = zone }

  module _ (listed : List SegmentAtParts) (say : SayAll segments listed) (first last : ℕ) where
    -- The size and the stream of those that are left are those of all.
    all_of_size : (r : ℕ × ℕ) → common_size listed ≡ Some r → AreOfSize segments r.0 r.1
    all_of_size r is q i = elim (say.each q i) [
      | inl k ↦ size_says listed r is q k
      | inr t ↦ let a = size_says listed r is t.0 t.1 in (sym t.2.unit_bytes ∙ a.0, sym t.2.body_sid ∙ a.1)
    ]

    pub tests_say : (r : ℕ × ℕ) (zone : EssenceZone) → common_size listed ≡ Some r → told_zone u first ≡ Some zone
        → first < last → last < 2 ^ 63 → 0 < r.0 → told_zone u last ≡ Some zone
        → list_any (has_both first last) listed ≡ true → AreEven (parts first last r.0 zone)
    tests_say r zone sized_ begin less number some end both =
        let found = (list_any-In (has_both first last) listed).0 both in
        let s = found.0 in
        let h = say.among s found.1 in
        let two = and_parts (is_some (stream_offset s.segment first)) (is_some (stream_offset s.segment last)) found.2 in
        let x = value_of (stream_offset s.segment first) two.0 in
        let y = value_of (stream_offset s.segment last) two.1 in
        let are = all_of_size r sized_ in
        let a = sized s r.0 first x.0 some (are s h).0 x.1 in
        let b = sized s r.0 last y.0 some (are s h).0 y.1 in
        record {
          order = less;
          number = number;
          some = some;
          body_sid = r.1;
          alike = are;
          by = s;
          held = h;
          first_given = x.1 ∙ ap (λ (n : ℕ). Some n) a.0;
          last_given = y.1 ∙ ap (λ (n : ℕ). Some n) b.0;
          first_zone = zone_here first zone (told-in first zone begin) r.0 r.1 s h (are s h).1
              (x.1 ∙ ap (λ (n : ℕ). Some n) a.0);
          last_zone = zone_here last zone (told-in last zone end) r.0 r.1 s h (are s h).1
              (y.1 ∙ ap (λ (n : ℕ). Some n) b.0);
          first_told = (told-in first zone begin).told;
          last_told = (told-in last zone end).told;
        }
      where
        zone_here : (k : ℕ) (zone : EssenceZone) → IsToldIn k zone → (size body_sid : ℕ) (s : SegmentAtParts)
            → In s segments → s.segment.numbers.body_sid ≡ body_sid → stream_offset s.segment k ≡ Some (size * k)
            → IsZone notes body_sid (size * k) (Ok zone)
        zone_here k zone t size body_sid s h body given =
            let at = (of_index notes u.index_sid s).0 h in
            let same = t.only.only (record { body_sid = body_sid; offset = size * k }) (record {
              by = s;
              held = at.0;
              index = at.1;
              body = body;
              offset = given;
            }) in
            subst (λ x. IsZone notes body_sid x (Ok zone)) (sym same.1)
            (subst (λ x. IsZone notes x t.offset (Ok zone)) (sym same.0) t.is_zone)

    module _ (size : ℕ) (zone : EssenceZone) (e : AreEven (parts first last size zone)) where
      pub has_size : common_size listed ≢ None
      has_size = elim (say.each e.by e.held) [
        | inl k ↦ says_size listed size e.body_sid e.by k (λ q i. e.alike q (say.among q i))
        | inr t ↦ says_size listed size e.body_sid t.0 t.1 (λ q i. e.alike q (say.among q i))
      ]

      pub some_size : (r : ℕ × ℕ) → common_size listed ≡ Some r → 0 < r.0
      some_size r is =
          let here = (all_of_size r is e.by e.held).0 in
          subst (λ x. 0 < x) (sym (e.alike e.by e.held).0 ∙ here) e.some

      only_of : (k : ℕ) → stream_offset e.by.segment k ≡ Some (size * k)
          → IsOnlyPlace (segments_of notes) u.index_sid k e.body_sid (size * k)
      only_of k given =
          let at = (of_index notes u.index_sid e.by).0 e.held in
          record {
            given = record { by = e.by; held = at.0; index = at.1; body = (e.alike e.by e.held).1; offset = given };
            only = λ q g.
                let h = (of_index notes u.index_sid g.by).1 (g.held, g.index) in
                (sym g.body ∙ (e.alike g.by h).1, (sized g.by size k q.offset e.some (e.alike g.by h).0 g.offset).0);
          }

      pub first_zone : told_zone u first ≡ Some zone
      first_zone = in-told first zone (record {
        told = e.first_told;
        body_sid = e.body_sid;
        offset = size * first;
        only = only_of first e.first_given;
        is_zone = e.first_zone;
      })

      pub last_zone : told_zone u last ≡ Some zone
      last_zone = in-told last zone (record {
        told = e.last_told;
        body_sid = e.body_sid;
        offset = size * last;
        only = only_of last e.last_given;
        is_zone = e.last_zone;
      })

      pub gives_both : list_any (has_both first last) listed ≡ true
      gives_both = (list_any-In (has_both first last) listed).1 (elim (say.each e.by e.held) [
        | inl k ↦ (e.by, k, both e.by e.first_given e.last_given)
        | inr t ↦ (
          t.0,
          t.1,
          both t.0 (t.2.given first (size * first) e.first_given) (t.2.given last (size * last) e.last_given),
        )
      ])
        where
          both : (s : SegmentAtParts) → stream_offset s.segment first ≡ Some (size * first)
              → stream_offset s.segment last ≡ Some (size * last) → has_both first last s ≡ true
          both s a b = and_from (is_some (stream_offset s.segment first)) (is_some (stream_offset s.segment last))
              (ap is_some a) (ap is_some b)

-- What is so of units that are named so is so of these.
pub renamed : (u : UnitsParts) (first last : ℕ) (e : EvenParts) → e.units ≡ u → e.first ≡ first → e.last ≡ last
    → AreEven e → AreEven (parts u first last e.size e.zone)
renamed u first last e a b c are =
    subst AreEven (λ i. record { units = a i; first = b i; last = c i; size = e.size; zone = e.zone }) are

pub if_none : {T : Type 0} (P : Type 0) (r : Option T) → r ≡ None → P → IfNone r P
if_none P r e p = subst (λ o. IfNone o P) (sym e) p
