-- What is asked for of a place of a stream is found by the tables.
use Rattle.mxf_views.proofs.Common.{◌≡◌, ◌∙◌, ◌<◌, ◌≤◌, ◌+◌, ◌⊎◌, ◌++◌, ◌↔◌, ℕ, Bool, true, false, List, [], ◌∷◌}
use Rattle.mxf_views.proofs.Common.{Option, None, Some, refl, sym, ap, subst, inl, inr, arith, get_or, length, map}
use Rattle.mxf_views.proofs.Common.{cases_lt, AllByRecursion, Less, NoteParts, In, IsRising, In-append, In-at, In-map}
use Rattle.mxf_views.proofs.Common.{Contains-from_In, IsRisingBy, one_by_key, lt_from_less, get_or_from_slice_get}
use Rattle.mxf_views.proofs.Common.{slice_get-get_or, slice_get_read, slice_get_within, LiesIn, partitions_of}
use Rattle.mxf_catalogue.specs.declared.run.Run.{Run}
use Rattle.mxf_views.specs.declared.index.place.StreamPlace.{StreamPlace}
use Rattle.std.proofs.Common.{slice_get}
use Rattle.mxf_places.specs.AtHand.{LiesBetween}
use Rattle.mxf_restore.specs.NamedPlaces.{place_cmp}
use Rattle.mxf_restore.specs.declared.named.NamedPlace.{NamedPlace}
use Rattle.mxf_units.specs.Units.{UnitsParts}
use Rattle.mxf_partial.specs.Named.{AreNamed, IsNamed}
use Rattle.mxf_partial.specs.Near.{IsNamedOf, IsNear, IsOfStream, IsPlaceOf, MayLieAt}
use Rattle.mxf_partial.specs.NearTable.{AreNear, Asks, HasAddedThose, IsFrom, LiesInStream, Serves, named_of}
use Rattle.mxf_partial.specs.NearTable.{partition_place}
use Rattle.mxf_partial.specs.Streams.{IsHigh, IsLow}
use Rattle.mxf_partial.specs.declared.near.Asked.{Asked}
use Rattle.mxf_partial.specs.declared.near.Near.{Near}
use Rattle.mxf_partial.specs.declared.place_streams.PlaceOf.{PlaceOf}
use Rattle.mxf_partial.proofs.NearLaws.{at_position, in_position}
use Rattle.mxf_partial.proofs.StreamOne.{high_one, low_one}

rises_by : (xs : List NamedPlace) → IsRising place_cmp xs → IsRisingBy (λ n. n.place) xs
rises_by [] r = tt
rises_by (x ∷ xs) r = (each xs r.0, rises_by xs r.1)
  where
    each : (ys : List NamedPlace) → AllByRecursion (λ y. place_cmp x y ≡ Less) ys
        → AllByRecursion (λ y. x.place < y.place) ys
    each [] a = tt
    each (y ∷ ys) a = (lt_from_less x.place y.place a.0, each ys a.1)

pub true_not_false : (b : Bool) → b ≡ true → b ≡ false → ⊥
true_not_false b e f = cc (e, f)

module _ (u : UnitsParts) (named : List NamedPlace) (near : Near) (nm : AreNamed u.known.notes named)
    (are : AreNear u named near) where
  abbrev notes : List NoteParts
  notes = u.known.notes

  abbrev items : List PlaceOf
  items = near.named.items

  is_named : (n : NamedPlace) → In n named → IsNamed notes n.place
  is_named n h = (n.source, (nm.members n).0 h)

  named_from : (p : PlaceOf) (b : ℕ) → In p items → Serves p.body_sid b → IsNamedOf notes b p.place
  named_from p b h s = let m = are.named.named p h in (is_named (named_of p) m.0, (m.1 b).0 s)

  named_to : (x b : ℕ) → IsNamedOf notes b x → (p : PlaceOf) × In p items × (p.place ≡ x) × Serves p.body_sid b
  named_to x b h =
      let n : NamedPlace = record { place = x; source = h.0.0 } in
      let f = are.named.each n b ((nm.members n).1 h.0.1) h.1 in
      let same : f.0.place ≡ x = ap (λ (m : NamedPlace). m.place) f.2 in
      (f.0, f.1, same, ((are.named.named f.0 f.1).1 b).1 (subst (λ y. IsOfStream notes b y) (sym same) h.1))

  abbrev all : List NamedPlace
  all = named ++ map partition_place (partitions_of notes)

  place_from : (p : PlaceOf) (b : ℕ) → In p near.places.items → Serves p.body_sid b → IsPlaceOf notes b p.place
  place_from p b h s =
      let m = are.places.named p h in (
        elim ((In-append (named_of p) named (map partition_place (partitions_of notes))).0 m.0) [
          | inl k ↦ inl (is_named (named_of p) k)
          | inr k ↦
              let q = (In-map partition_place (partitions_of notes) (named_of p)).0 k in
              inr (q.0, q.1, ap (λ (n : NamedPlace). n.place) (sym q.2))
        ],
        (m.1 b).0 s,
      )

  placed_at : (n : NamedPlace) (b : ℕ) → In n all → IsOfStream notes b n.place
      → (p : PlaceOf) × In p near.places.items × (p.place ≡ n.place) × Serves p.body_sid b
  placed_at n b h streams =
      let f = are.places.each n b h streams in
      let same : f.0.place ≡ n.place = ap (λ (m : NamedPlace). m.place) f.2 in
      (f.0, f.1, same, ((are.places.named f.0 f.1).1 b).1 (subst (λ y. IsOfStream notes b y) (sym same) streams))

  place_to : (y b : ℕ) → IsPlaceOf notes b y
      → (p : PlaceOf) × In p near.places.items × (p.place ≡ y) × Serves p.body_sid b
  place_to y b h =
      elim h.0 [
        | inl k ↦
            let n : NamedPlace = record { place = y; source = k.0 } in
            placed_at n b ((In-append n named (map partition_place (partitions_of notes))).1 (inl ((nm.members n).1
            k.1)))
            h.1
        | inr k ↦
            let n = partition_place k.0 in
            let f = placed_at n b ((In-append n named (map partition_place (partitions_of notes))).1
            (inr ((In-map partition_place (partitions_of notes) n).1 (k.0, k.1, refl))))
            (subst (λ x. IsOfStream notes b x) (sym k.2) h.1) in (f.0, f.1, f.2 ∙ k.2, f.3)
      ]

  module _ (b s low from : ℕ) (end : Option ℕ) (low_is : IsLow notes b s low) (high_is : IsHigh u b s end)
      (from_is : IsFrom near.places.items b low from) where
    near_from : (p : PlaceOf) → In p items → LiesInStream b from end p → IsNear u b s p.place
    near_from p h l =
        let reach = l.1.0 in
        record {
          named = named_from p b h l.0;
          low = low;
          low_is = low_is;
          from = λ y k m.
              let q = place_to y b k in
              let same = q.2 in
              let g = from_is.greatest q.0 q.1 q.3 (omega (arith, same, m)) in omega (arith, g, same, reach);
          high = end;
          high_is = high_is;
          before = (omega arith, l.1.1);
        }

    near_to : (x : ℕ) → IsNear u b s x → (p : PlaceOf) × In p items × LiesInStream b from end p × (p.place ≡ x)
    near_to x n =
        let p = named_to x b n.named in
        let low_same = low_one notes b s n.low low are.streams.differ n.low_is low_is in
        let high_same = high_one u b s n.high end n.high_is high_is in
        let reach : from ≤ x = elim from_is.is [
          | inl z ↦ omega (arith, z)
          | inr q ↦
              let same = q.3 in
              let below = q.4 in
              let m = n.from q.0.place (place_from q.0 b q.1 q.2) (omega (arith, same, below, low_same)) in
              omega (arith, m, same)
        ] in
        let lies : LiesBetween from end x = (reach, (subst (λ e. LiesBetween 0 e x) high_same n.before).1) in
        (p.0, p.1, (p.3, subst (λ y. LiesBetween from end y) (sym p.2) lies), p.2)

    no_near : (any : Bool) (old new : List Run) → HasAddedThose items (LiesInStream b from end) old new any
        → any ≡ false → (y : ℕ) → ¬ IsNear u b s y
    no_near any old new has none y n =
        let p = near_to y n in true_not_false any (has.some.1 (p.0, p.1, p.2)) none

    -- Where some of the places near are named.
    pub asks_near : (any every : Bool) (old new : List Run) → HasAddedThose items (LiesInStream b from end) old new any
        → any ≡ true → (x : ℕ) → Asks items (record { positions = new; all = every }) x
        ↔ (Asks items (record { positions = old; all = every }) x ⊎ MayLieAt u b s x)
    asks_near any every old new has some x = (
      λ h. elim h [
        | inl a ↦ inl (inl a)
        | inr f ↦ elim ((has.added f.0 f.1 f.2).0 f.3) [
          | inl i ↦ inl (inr (f.0, f.1, f.2, i, f.4))
          | inr q ↦ inr (inl (subst (IsNear u b s) f.4 (near_from f.1 (in_position items f.0 f.1 f.2) q)))
        ]
      ],
      λ h. elim h [
        | inl a ↦ elim a [ inl e ↦ inl e | inr f ↦ inr (f.0, f.1, f.2, (has.added f.0 f.1 f.2).1 (inl f.3), f.4) ]
        | inr may ↦ elim may [
          | inl n ↦
              let p = near_to x n in
              let k = at_position items p.0 p.1 in
              inr (k.0, p.0, k.1, (has.added k.0 p.0 k.1).1 (inr p.2), p.3)
          | inr other ↦
              let p = has.some.0 some in
              let n = near_from p.0 p.1 p.2 in
              absurd (elim other [ inl m ↦ m.0 p.0.place n | inr m ↦ m.0 p.0.place n.named ])
        ]
      ],
    )

    module _ (any own every : Bool) (old mid new : List Run)
        (has : HasAddedThose items (LiesInStream b from end) old mid any) (none : any ≡ false)
        (more : HasAddedThose items (LiesInStream b 0 None) mid new own) where
      old_only : (k : ℕ) (p : PlaceOf) → slice_get items k ≡ Some p → LiesIn mid k → LiesIn old k
      old_only k p e h =
          elim ((has.added k p e).0 h) [
            | inl i ↦ i
            | inr q ↦ absurd (true_not_false any (has.some.1 (p, in_position items k p e, q)) none)
          ]

      -- Where none is, and some of the stream are named.
      pub asks_named : own ≡ true → (x : ℕ) → Asks items (record { positions = new; all = every }) x
          ↔ (Asks items (record { positions = old; all = every }) x ⊎ MayLieAt u b s x)
      asks_named some x = (
        λ h. elim h [
          | inl a ↦ inl (inl a)
          | inr f ↦ elim ((more.added f.0 f.1 f.2).0 f.3) [
            | inl i ↦ inl (inr (f.0, f.1, f.2, old_only f.0 f.1 f.2 i, f.4))
            | inr q ↦ inr (inr (inl (
              no_near any old mid has none,
              subst (IsNamedOf notes b) f.4 (named_from f.1 b (in_position items f.0 f.1 f.2) q.0),
            )))
          ]
        ],
        λ h. elim h [
          | inl a ↦ elim a [
            | inl e ↦ inl e
            | inr f ↦ inr (f.0, f.1, f.2, (more.added f.0 f.1 f.2).1 (inl ((has.added f.0 f.1 f.2).1 (inl f.3))), f.4)
          ]
          | inr may ↦ elim may [
            | inl n ↦ absurd (no_near any old mid has none x n)
            | inr other ↦ elim other [
              | inl m ↦
                  let p = named_to x b m.1 in
                  let k = at_position items p.0 p.1 in
                  inr (k.0, p.0, k.1, (more.added k.0 p.0 k.1).1 (inr (p.3, (omega arith, inl refl))), p.2)
              | inr m ↦
                  let p = more.some.0 some in absurd (m.0 p.0.place (named_from p.0 b p.1 p.2.0))
            ]
          ]
        ],
      )

      -- Where none of the stream is named.
      pub asks_all : own ≡ false → (x : ℕ) → IsNamed notes x → Asks items (record { positions = new; all = true }) x
          ↔ (Asks items (record { positions = old; all = every }) x ⊎ MayLieAt u b s x)
      asks_all empty x there = (
        λ h. inr (inr (inr (
          λ y m. let p = named_to y b m in true_not_false own (more.some.1 (
            p.0,
            p.1,
            (p.3, (omega arith, inl refl)),
          )) empty,
          there,
        ))),
        λ h. inl refl,
      )

  -- ---- all places of streams

  -- One of so many places of streams may lie there.
  abbrev pub MayLieOf : List StreamPlace → ℕ → ℕ → Type 0
  MayLieOf places count x =
      (k : ℕ) × (p : StreamPlace) × (k < count) × (slice_get places k ≡ Some p) × MayLieAt u p.body_sid p.offset x

  abbrev pub AsksFor : List StreamPlace → ℕ → Asked → Type 0
  AsksFor places count asked = (x : ℕ) → IsNamed notes x → Asks items asked x ↔ MayLieOf places count x

  pub asks_more : (places : List StreamPlace) (count : ℕ) (p : StreamPlace) (old new : Asked)
      → slice_get places count ≡ Some p → AsksFor places count old
      → ((x : ℕ) → IsNamed notes x → Asks items new x ↔ (Asks items old x ⊎ MayLieAt u p.body_sid p.offset x))
      → AsksFor places (count + 1) new
  asks_more places count p old new here was step x there = (
    λ h. elim ((step x there).0 h) [
      | inl a ↦ let m = (was x there).0 a in let l = m.2 in (m.0, m.1, omega (arith, l), m.3, m.4)
      | inr m ↦ (count, p, omega arith, here, m)
    ],
    λ h.
        let l = h.2 in
        (step x there).1 (elim (cases_lt h.0 count) [
          | inl m ↦ inl ((was x there).1 (h.0, h.1, m, h.3, h.4))
          | inr m ↦
              let same : h.0 ≡ count = omega (arith, l, m) in
              let e : Some h.1 ≡ Some p = sym h.3 ∙ ap (slice_get places) same ∙ here in
              let q : h.1 ≡ p = cc (e) in
              inr (subst (λ (r : StreamPlace). MayLieAt u r.body_sid r.offset x) q h.4)
        ]),
  )

  -- One more of them, by where it stands.
  pub asks_push : (places : List StreamPlace) (count : ℕ) (d : StreamPlace) (old new : Asked) → count < length places
      → AsksFor places count old → ((x : ℕ) → IsNamed notes x → Asks items new x
      ↔ (Asks items old x ⊎ MayLieAt u (get_or places count d).body_sid (get_or places count d).offset x))
      → AsksFor places (count + 1) new
  asks_push places count d old new l was step =
      asks_more places count (get_or places count d) old new (slice_get-get_or places count d l) was step

  -- What is added of the named places.
  abbrev pub IsAdded : Asked → NamedPlace → Type 0
  IsAdded asked n = ((asked.all ≡ true) × In n named)
      ⊎ ((asked.all ≡ false) × ((k : ℕ) × (p : PlaceOf) × (slice_get items k ≡ Some p) × LiesIn asked.positions k
      × (n ≡ named_of p)))

  added_is : (asked : Asked) (n : NamedPlace) → IsAdded asked n → In n named × Asks items asked n.place
  added_is asked n (inl f) = (f.1, inl f.0)
  added_is asked n (inr f) = grind (arith, in_position)

  is_added : (asked : Asked) (all : Bool) (n : NamedPlace) → asked.all ≡ all → In n named → Asks items asked n.place
      → IsAdded asked n
  is_added asked true n e h a = inl (e, h)
  is_added asked false n e h (inl a) = absurd (true_not_false asked.all a e)
  is_added asked false n e h (inr f) =
      inr (
        e,
        (
          f.0,
          f.1,
          f.2,
          f.3,
          one_by_key (λ (m : NamedPlace). m.place) named n (named_of f.1) (rises_by named nm.rising) h
              (are.named.named f.1 (in_position items f.0 f.1 f.2)).0 (sym f.4),
        ),
      )

  pub all_asked : (places : List StreamPlace) (count : ℕ) (asked : Asked) (old new : List NamedPlace)
      → length places ≤ count → AsksFor places count asked
      → ((n : NamedPlace) → In n new ↔ (In n old ⊎ IsAdded asked n)) → (n : NamedPlace)
      → In n new ↔ (In n old ⊎ (In n named × ((p : StreamPlace) × In p places × MayLieAt u p.body_sid p.offset
      n.place)))
  all_asked places count asked old new end asks added n = (
    λ h. elim ((added n).0 h) [
      | inl o ↦ inl o
      | inr f ↦
          let g = added_is asked n f in
          let m = (asks n.place (is_named n g.0)).0 g.1 in inr (g.0, (m.1, in_places m.0 m.1 m.3, m.4))
    ],
    λ h. (added n).1 (elim h [
      | inl o ↦ inl o
      | inr f ↦
          let c = Contains-from_In f.1.0 places f.1.1 in
          let l : c.0 < length places = c.1 in
          let a = (asks n.place (is_named n f.0)).1 (
            c.0,
            f.1.0,
            omega (arith, l, end),
            slice_get_read places (length places) c.0 f.1.0 refl c.1 (sym c.2),
            f.1.2,
          ) in
          inr (is_added asked asked.all n refl f.0 a)
    ]),
  )
    where
      in_places : (k : ℕ) (p : StreamPlace) → slice_get places k ≡ Some p → In p places
      in_places k p e = subst (λ (q : StreamPlace). In q places) (get_or_from_slice_get places k p p e)
          (In-at places k p (slice_get_within places k p e))
