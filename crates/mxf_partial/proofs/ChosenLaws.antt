-- Named places between the segments of an index, and those of them that are chosen.
use Rattle.mxf_views.proofs.Common.{◌≡◌, ◌↔◌, ◌∙◌, ◌⊎◌, ◌+◌, ◌*◌, ◌/◌, ◌<◌, ◌≤◌, ℕ, Bool, true, IsTrue, List, [], ◌∷◌}
use Rattle.mxf_views.proofs.Common.{◌++◌, Option, Some, arith, ap, filter, get_or, inl, inr, length, map, refl, subst}
use Rattle.mxf_views.proofs.Common.{sym, slice_get, list_all, mul-le-mul_left, leb_tells, get_or-map, length-map}
use Rattle.mxf_views.proofs.Common.{get_or_from_slice_get, slice_get-get_or, slice_get-map, slice_get_within, In}
use Rattle.mxf_views.proofs.Common.{IsRising, In-at, In-end, In-filter, In-list_all, In-map, all-In, all_from_In}
use Rattle.mxf_views.proofs.Common.{list_all-In, IsRisingBy, by_itself, one_by_key, rises-filter, rises-map}
use Rattle.mxf_views.proofs.Common.{same_by_members, lt_from_less, SegmentAtParts}
use Rattle.std.proofs.Common.{nat_cmp}
use Rattle.std.specs.Option.{option_map}
use Rattle.mxf_klv.proofs.Tests.{less_from_lt}
use Rattle.mxf_units.specs.Streams.{segments_for}
use Rattle.mxf_units.specs.Units.{UnitsParts}
use Rattle.mxf_restore.specs.NamedPlaces.{place_cmp}
use Rattle.mxf_restore.specs.declared.named.NamedPlace.{NamedPlace}
use Rattle.mxf_partial.specs.Between.{IsOneOf16, LiesBetweenSegments, MayIndexOneOf}
use Rattle.mxf_partial.specs.Named.{AreNamed}
use Rattle.mxf_partial.specs.SegmentStarts.{IsEvenly16, is_apart, is_between_any, start_of, starts_for}
use Rattle.mxf_partial.proofs.StartLaws.{apart_says, between_any}

abbrev offset_of : NamedPlace → ℕ
offset_of n = n.place

-- ---- lists that rise

pub keys_rise : (ns : List NamedPlace) → IsRising place_cmp ns → IsRisingBy offset_of ns
keys_rise [] r = tt
keys_rise (n ∷ ns) r = grind (arith, all_from_In, lt_from_less, all-In, keys_rise ns r.1)

pub numbers_rise : (xs : List ℕ) → IsRisingBy (λ x. x) xs → IsRising nat_cmp xs
numbers_rise [] r = tt
numbers_rise (x ∷ xs) r = grind (arith, all_from_In, nat_cmp, less_from_lt, all-In, numbers_rise xs r.1)

-- ---- between segments

pub between_segments : (ss : List SegmentAtParts) (u x : ℕ)
    → LiesBetweenSegments ss u x ↔ IsTrue (list_all (is_apart u x) (map start_of ss))
between_segments ss u x = (
  λ h. In-list_all (is_apart u x) (map start_of ss) (λ t i.
      let s = (In-map start_of ss t).0 i in
      subst (λ t. is_apart u x t ≡ true) (sym s.2) ((apart_says u x (start_of s.0)).1 (h s.0 s.1))),
  λ h s i. (apart_says u x (start_of s)).0
      (list_all-In (is_apart u x) (map start_of ss) (start_of s) h ((In-map start_of ss (start_of s)).1 (s, i, refl))),
)

-- ---- that lie evenly

evenly_in : (ns : List NamedPlace) (n : NamedPlace) → IsEvenly16 ns n → In n ns
evenly_in ns n h = elim h [
  | inl p ↦ p.1
  | inr p ↦
      let k = p.1.0 * length ns / 16 in
      subst (λ m. In m ns) (get_or_from_slice_get ns k n n p.1.2) (In-at ns k n (slice_get_within ns k n p.1.2))
]

evenly_mapped : (ns : List NamedPlace) (n : NamedPlace) → IsEvenly16 ns n → IsEvenly16 (map offset_of ns) n.place
evenly_mapped ns n h =
    let count : length (map offset_of ns) ≡ length ns = length-map ns offset_of in
    elim h [
      | inl p ↦
          let l : length ns ≤ 16 = p.0 in
          inl (omega (arith, l, count), (In-map offset_of ns n.place).1 (n, p.1, refl))
      | inr p ↦
          let l : 16 < length ns = p.0 in
          inr (
            omega (arith, l, count),
            (
              p.1.0,
              p.1.1,
              subst (λ c. slice_get (map offset_of ns) (p.1.0 * c / 16) ≡ Some n.place) (sym count)
                  (slice_get-map offset_of ns (p.1.0 * length ns / 16) ∙ ap (option_map offset_of) p.1.2),
            ),
          )
    ]

evenly_from_mapped : (ns : List NamedPlace) (n : NamedPlace)
    → ((m : NamedPlace) → In m ns → n.place ≡ m.place → n ≡ m) → IsEvenly16 (map offset_of ns) n.place → IsEvenly16 ns n
evenly_from_mapped ns n only h =
    let count : length (map offset_of ns) ≡ length ns = length-map ns offset_of in
    elim h [
      | inl p ↦
          let l : length (map offset_of ns) ≤ 16 = p.0 in
          let m = (In-map offset_of ns n.place).0 p.1 in
          inl (omega (arith, l, count), subst (λ x. In x ns) (sym (only m.0 m.1 m.2)) m.1)
      | inr p ↦
          let l : 16 < length (map offset_of ns) = p.0 in
          let k = p.1.0 * length ns / 16 in
          let at : slice_get (map offset_of ns) k ≡ Some n.place =
          subst (λ c. slice_get (map offset_of ns) (p.1.0 * c / 16) ≡ Some n.place) count p.1.2 in
          let inside : k < length (map offset_of ns) = slice_get_within (map offset_of ns) k n.place at in
          let within : k < length ns = omega (arith, inside, count) in
          let there : n.place ≡ offset_of (get_or ns k n) =
          sym (get_or_from_slice_get (map offset_of ns) k n.place n.place at)
          ∙ get_or-map offset_of ns k n n.place within in
          let is : n ≡ get_or ns k n = only (get_or ns k n) (In-at ns k n within) there in
          inr (omega (arith, l, count), (p.1.0, p.1.1, slice_get-get_or ns k n within ∙ ap Some (sym is)))
    ]

-- Which those are by how many there are.
pub evenly_few : (ns : List NamedPlace) (n : NamedPlace) → length ns ≤ 16 → In n ns ↔ IsEvenly16 ns n
evenly_few ns n few = (λ h. inl (few, h), evenly_in ns n)

pub evenly_many : (ns : List NamedPlace) (n : NamedPlace) → 16 < length ns
    → ((i : ℕ) × (i < 16) × (slice_get ns (i * length ns / 16) ≡ Some n)) ↔ IsEvenly16 ns n
evenly_many ns n many = grind arith

-- One of two, of which the second is said in another way.
pub or_same : {A B C D : Type 0} → (A ↔ (B ⊎ C)) → (C ↔ D) → A ↔ (B ⊎ D)
or_same m e = grind arith

pub part_within : (i n : ℕ) → i < 16 → 16 < n → i * n / 16 < n
part_within i n l m = let most : n * i ≤ n * 15 = mul-le-mul_left n (omega arith) in omega (arith, most)

-- One more of those that are taken one after another.
pub one_more : {K : Type 0} (f : ℕ → Option K) (old asked new : List K) (i : ℕ) (v : K) → new ≡ asked ++ v ∷ []
    → f i ≡ Some v → ((n : K) → In n asked ↔ (In n old ⊎ ((j : ℕ) × (j < i) × (f j ≡ Some n))))
    → (n : K) → In n new ↔ (In n old ⊎ ((j : ℕ) × (j < i + 1) × (f j ≡ Some n)))
one_more {K} f old asked new i v e at so_far n =
    let more = In-end n v asked new e in (
      λ h. elim (more.0 h) [
        | inl k ↦ elim ((so_far n).0 k) [
          | inl o ↦ inl o
          | inr s ↦ let l : s.0 < i = s.1 in inr (s.0, omega (arith, l), s.2)
        ]
        | inr q ↦ inr (i, omega arith, at ∙ ap Some (sym q))
      ],
      λ h. more.1 (elim h [
        | inl o ↦ inl ((so_far n).1 (inl o))
        | inr s ↦ elim (leb_tells i s.0) [
          | inl t ↦
              let l : s.0 < i + 1 = s.1 in
              let m : i ≤ s.0 = t.1 in
              let same : s.0 ≡ i = omega (arith, l, m) in
              let there : f s.0 ≡ Some n = s.2 in
              let both : Some n ≡ Some v = sym there ∙ ap f same ∙ at in
              inr cc
          | inr t ↦ inl ((so_far n).1 (inr (s.0, t.1, s.2)))
        ]
      ]),
    )

-- All of them are taken.
pub all_taken : {K : Type 0} (f : ℕ → Option K) (old asked : List K) (i count : ℕ) → i ≡ count
    → ((n : K) → In n asked ↔ (In n old ⊎ ((j : ℕ) × (j < i) × (f j ≡ Some n))))
    → (n : K) → In n asked ↔ (In n old ⊎ ((j : ℕ) × (j < count) × (f j ≡ Some n)))
all_taken {K} f old asked i count e so_far n =
    subst (λ c. In n asked ↔ (In n old ⊎ ((j : ℕ) × (j < c) × (f j ≡ Some n)))) e (so_far n)

-- ---- of all named places

module _ (u : UnitsParts) (numbers : List ℕ) (named : List NamedPlace) (are : AreNamed u.known.notes named) where
  abbrev test : NamedPlace → Bool
  test n = is_between_any (starts_for u) numbers n.place

  abbrev places : List NamedPlace
  places = filter test named

  test_says : (n : NamedPlace) → IsTrue (test n) ↔ ((unit : ℕ) × In unit numbers
      × LiesBetweenSegments (segments_for u.known.notes u.index_sid) unit n.place)
  unfolding starts_for
  test_says n = grind (arith, between_any, between_segments)

  may_index : (x : ℕ) → In x (map offset_of places) ↔ MayIndexOneOf u numbers x
  may_index x = (
    λ h.
        let n = (In-map offset_of places x).0 h in
        let f = (In-filter test named n.0).0 n.1 in
        let t = (test_says n.0).0 f.1 in
        subst (MayIndexOneOf u numbers) (sym n.2) record {
          named = (n.0.source, (are.members n.0).0 f.0);
          number = t.0;
          among = t.1;
          between = t.2;
        },
    λ m.
        let n : NamedPlace = record { place = x; source = m.named.0 } in
        (In-map offset_of places x).1 (
          n,
          (In-filter test named n).1 ((are.members n).1 m.named.1, (test_says n).1 (m.number, m.among, m.between)),
          refl,
        ),
  )

  rise : IsRisingBy (λ x. x) (map offset_of places)
  rise = rises-map offset_of offset_of (λ x. x) places (λ n h. refl)
      (rises-filter offset_of test named (keys_rise named are.rising))

  -- The places that are chosen.
  pub chosen_says : (n : NamedPlace) → IsEvenly16 places n ↔ (In n named × IsOneOf16 (MayIndexOneOf u numbers) n.place)
  chosen_says n = (
    λ h. (
      ((In-filter test named n).0 (evenly_in places n h)).0,
      record {
        places = map offset_of places;
        rising = numbers_rise (map offset_of places) rise;
        members = may_index;
        chosen = evenly_mapped places n h;
      },
    ),
    λ h.
        let one = h.1 in
        let same : one.places ≡ map offset_of places =
        same_by_members (λ x. x) one.places (map offset_of places) (by_itself one.places one.rising) rise
        (λ y. (λ i. (may_index y).1 ((one.members y).0 i), λ i. (one.members y).1 ((may_index y).0 i))) in
        evenly_from_mapped places n (λ m i e. one_by_key offset_of named n m (keys_rise named are.rising) h.0
        ((In-filter test named m).0 i).0 e) (subst (λ l. IsEvenly16 l n.place) same one.chosen),
  )
