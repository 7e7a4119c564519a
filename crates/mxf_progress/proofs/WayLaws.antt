-- Where ways from partition packs end, by tests and by relations.
use Rattle.mxf_views.proofs.Common.{◌≡◌, ◌↔◌, ◌⊎◌, ◌∙◌, ◌<◌, ◌≤◌, ◌+◌, ◌-◌, ℕ, Bool, true, false}
use Rattle.mxf_views.proofs.Common.{List, [], ◌∷◌, Option, None, Some, if◌then◌else◌, refl, sym, ap, subst, inl, inr}
use Rattle.mxf_views.proofs.Common.{arith, and_from, and_parts, guarded, lt-ltb, ltb-false, nat_lt, not, not-true-false}
use Rattle.mxf_views.proofs.Common.{option_and_then, option_map, option_or, same_Some, NoteParts, end_of, kind_of, In}
use Rattle.mxf_views.proofs.Common.{IsContent, PartitionParts, cases_lt}
use Rattle.mxf_klv.specs.declared.kinds.Kind.TheVariants as kinds
use Rattle.mxf_places.specs.Claims.{behind_metadata, index_of, known_end, metadata_of, over_fills}
use Rattle.mxf_places.specs.Held.{IsHeld, is_held, is_in_file}
use Rattle.mxf_places.specs.Named.{Follow, IsBehindMetadata, IsCounted, IsOver}
use Rattle.mxf_places.specs.Named.{IsStretch, StandsAlone}
use Rattle.mxf_places.specs.declared.stretch.Stretch.{Stretch}
use Rattle.mxf_places.specs.declared.stretch.Zone.{Zone}
use Rattle.mxf_places.specs.declared.stretch.Zone.TheVariants as zones
use Rattle.mxf_places.proofs.EndLaws.{in_file_says}
use Rattle.mxf_places.proofs.HeldLaws.{is_held-says}
use Rattle.mxf_places.proofs.OverLaws.{over_says}
use Rattle.mxf_places.proofs.ZoneLaws.{behind_says, metadata_says, stretch_says, zone_says}
use Rattle.mxf_units.specs.EssenceZones.{behind_index}
use Rattle.mxf_partial.specs.Ways.{end_of_way, is_free, open_end, way_of}
use Rattle.mxf_progress.specs.WayEnds.{GoesOnAt, GoesPast, IsOnWay, IsWayEnd, StopsAt}
use Rattle.mxf_progress.specs.WayEnds.GoesPast.{Counted, Nothing}
use Rattle.mxf_progress.specs.WayEnds.IsOnWay.{OfFill, OfIndex, OfMetadata}
use Rattle.mxf_progress.specs.WayEnds.IsWayEnd.{BehindIndex, BeforeIndex, BeforeMetadata}

abbrev opened : Stretch → Bool
opened s = s.is_open

module _ (notes : List NoteParts) where
  counted : (zone : Zone) (from count : ℕ) (s : Stretch) → IsStretch zone notes from count s → s.is_open ≡ false
      → IsCounted zone notes from count s
  counted zone from count s k closed = elim k [
    | inl c ↦ c
    | inr o ↦ absurd (let opens = ap opened o.is in cc (opens, closed))
  ]

  stops : (zone : Zone) (from count : ℕ) (s : Stretch) → 0 < count → IsStretch zone notes from count s
      → s.is_open ≡ true → StopsAt notes from count (s.end - 1)
  stops zone from count s some k opens = elim k [
    | inl c ↦ absurd (let closed = ap opened c.is in cc (opens, closed))
    | inr o ↦ (
        let end = ap (λ (s : Stretch). s.end) o.is in
        let at : s.end - 1 ≡ o.at = omega (arith, end) in
        subst (StopsAt notes from count) (sym at)
        (record { counts = some; over = o.over; none = o.none; unknown = o.unknown }))
  ]

  abbrev stopped : ℕ → ℕ → Stretch
  stopped from x = record { from = from; end = x + 1; is_open = true }

  stretched : (zone : Zone) (from count x : ℕ) → StopsAt notes from count x
      → IsStretch zone notes from count (stopped from x)
  stretched zone from count x s =
      inr (record { at = x; over = s.over; none = s.none; unknown = s.unknown; is = refl })

  module _ (content : IsContent notes) (p : PartitionParts) where
    abbrev header : ℕ
    header = p.pack.numbers.header_byte_count

    abbrev segments : ℕ
    segments = p.pack.numbers.index_byte_count

    past_metadata : (y : ℕ) → IsBehindMetadata notes p y ↔ GoesPast zones.Metadata notes p.end header y
    past_metadata y = (
      λ b. elim b [
        | inl none ↦ Nothing none.0 none.1
        | inr k ↦ Counted k.1.0 k.0 (counted zones.Metadata p.end header k.0 k.1.1 k.2) k.3
      ],
      λ g. elim g [
        | Nothing none same ↦ inl (none, same)
        | Counted some s c same ↦ inr (s, (some, inl c), ap opened c.is, same)
      ],
    )

    -- Past both.
    abbrev IsPast : ℕ → Type 0
    IsPast y =
        (index : ℕ) × GoesPast zones.Metadata notes p.end header index
        × GoesPast zones.Index notes index segments y

    index_end : (y : ℕ) (d : Option Stretch) → index_of notes p ≡ d → option_and_then known_end d ≡ Some y → IsPast y
    index_end y None f e = absurd cc
    index_end y (Some s) f e =
        let are = (zone_says notes content p zones.Index s).0 f in
        elim s.is_open as (λ b. s.is_open ≡ b → (if b then None else Some s.end) ≡ Some y → IsPast y) [
          | true ↦ λ opens g. absurd cc
          | false ↦ λ closed g. (
            are.1.0,
            (past_metadata are.1.0).0 are.1.1,
            Counted are.0 s (counted zones.Index are.1.0 segments s are.1.2 closed) (sym (same_Some _ _ g)),
          )
        ] refl e

    behind_is : (y : ℕ) → (behind_index notes p ≡ Some y) ↔ IsPast y
    behind_is y =
        let end = option_and_then known_end (index_of notes p) in
        let before = behind_metadata notes p in (
          λ e. elim (nat_lt 0 segments) as (λ b. nat_lt 0 segments ≡ b → (if b then end else before) ≡ Some y
              → IsPast y) [
                | true ↦ λ t f. index_end y (index_of notes p) refl f
                | false ↦ λ t f.
                    let none = ltb-false 0 segments t in
                    (y, (past_metadata y).0 ((behind_says notes content p y).0 f), Nothing (omega (arith, none)) refl)
              ] refl e,
          λ k. elim k.2 [
            | Nothing none same ↦ ap (λ n. if nat_lt 0 n then end else before) none
                ∙ (behind_says notes content p k.0).1 ((past_metadata k.0).1 k.1) ∙ ap (λ (z : ℕ). Some z) (sym same)
            | Counted some s c same ↦ ap (λ b. if b then end else before) (lt-ltb 0 segments some)
                ∙ ap (λ (d : Option Stretch). option_and_then known_end d)
                ((zone_says notes content p zones.Index s).1 (some, (k.0, (past_metadata k.0).1 k.1, inl c)))
                ∙ ap (λ b. if b then None else Some s.end) (ap opened c.is) ∙ ap (λ (z : ℕ). Some z) (sym same)
          ],
        )

    -- What is left where the way doesn't go past both.
    abbrev stops_by : Option Stretch → Option Stretch → Option ℕ
    stops_by m d = option_or (option_and_then open_end m) (option_and_then open_end d)

    stopped_index : (x : ℕ) (d : Option Stretch) → index_of notes p ≡ d → option_and_then open_end d ≡ Some x
        → IsWayEnd notes p x
    stopped_index x None f e = absurd cc
    stopped_index x (Some s) f e =
        let are = (zone_says notes content p zones.Index s).0 f in
        elim s.is_open as (λ b. s.is_open ≡ b → (if b then Some (s.end - 1) else None) ≡ Some x → IsWayEnd notes p x) [
          | true ↦ λ opens g. BeforeIndex are.1.0 ((past_metadata are.1.0).0 are.1.1)
              (subst (StopsAt notes are.1.0 segments) (same_Some _ _ g)
              (stops zones.Index are.1.0 segments s are.0 are.1.2 opens))
          | false ↦ λ closed g. absurd cc
        ] refl e

    stopped_there : (x : ℕ) (m : Option Stretch) → metadata_of notes p ≡ m → stops_by m (index_of notes p) ≡ Some x
        → IsWayEnd notes p x
    stopped_there x None f e = stopped_index x (index_of notes p) refl e
    stopped_there x (Some s) f e =
        let are = (metadata_says notes content p s).0 f in
        elim s.is_open as (λ b. s.is_open ≡ b → option_or (if b then Some (s.end - 1) else None)
        (option_and_then open_end (index_of notes p)) ≡ Some x → IsWayEnd notes p x) [
          | true ↦ λ opens g. BeforeMetadata (subst (StopsAt notes p.end header) (same_Some _ _ g)
              (stops zones.Metadata p.end header s are.0 are.1 opens))
          | false ↦ λ closed g. stopped_index x (index_of notes p) refl g
        ] refl e

    end_tells : (x : ℕ) (b : Option ℕ) → behind_index notes p ≡ b
        → option_or (option_map (over_fills notes) b) (stops_by (metadata_of notes p) (index_of notes p)) ≡ Some x
        → IsWayEnd notes p x
    end_tells x None f e = stopped_there x (metadata_of notes p) refl e
    end_tells x (Some y) f e =
        let k = (behind_is y).0 f in
        BehindIndex k.0 y k.1 k.2 ((over_says notes content y x).0 (same_Some _ _ e))

    -- Whoever goes past the header metadata doesn't stop before them.
    not_both : (y x : ℕ) → GoesPast zones.Metadata notes p.end header y → ¬ StopsAt notes p.end header x
    not_both y x g s = elim g [
      | Nothing none same ↦ (let some = s.counts in omega (arith, some, none))
      | Counted some t c same ↦ (
          let a = (stretch_says notes content zones.Metadata p.end header t).1 (inl c) in
          let b = (stretch_says notes content zones.Metadata p.end header (stopped p.end x)).1
          (stretched zones.Metadata p.end header x s) in
          let both = ap opened (same_Some _ _ (sym a ∙ b)) in
          let closed = ap opened c.is in cc (both, closed))
    ]

    not_behind : (x : ℕ) (b : Option ℕ) → behind_index notes p ≡ b → ((y : ℕ) → ¬ IsPast y)
        → option_or (option_map (over_fills notes) b) (stops_by (metadata_of notes p) (index_of notes p))
        ≡ stops_by (metadata_of notes p) (index_of notes p)
    not_behind x None e none = refl
    not_behind x (Some y) e none = absurd (none y ((behind_is y).0 e))

    not_open : (m : Option Stretch) → metadata_of notes p ≡ m → (y : ℕ) → GoesPast zones.Metadata notes p.end header y
        → stops_by m (index_of notes p) ≡ option_and_then open_end (index_of notes p)
    not_open None e y g = refl
    not_open (Some s) e y g =
        let are = (metadata_says notes content p s).0 e in
        elim s.is_open as (λ b. s.is_open ≡ b → option_or (if b then Some (s.end - 1) else None)
        (option_and_then open_end (index_of notes p)) ≡ option_and_then open_end (index_of notes p)) [
          | true ↦ λ opens. absurd (not_both y (s.end - 1) g
              (stops zones.Metadata p.end header s are.0 are.1 opens))
          | false ↦ λ closed. refl
        ] refl

    says_end : (x : ℕ) → IsWayEnd notes p x → end_of_way notes p ≡ Some x
    says_end x w = elim w [
      | BeforeMetadata s ↦ (
          not_behind x (behind_index notes p) refl (λ y k. not_both k.0 x k.1 s)
          ∙ ap (λ (m : Option Stretch). stops_by m (index_of notes p))
          ((metadata_says notes content p (stopped p.end x)).1
          (s.counts, stretched zones.Metadata p.end header x s)) ∙ ap (λ (z : ℕ). Some z) (the_end x))
      | BeforeIndex index g s ↦ (
          not_behind x (behind_index notes p) refl (λ y k. past_index index x g s k)
          ∙ not_open (metadata_of notes p) refl index g
          ∙ ap (λ (d : Option Stretch). option_and_then open_end d)
          ((zone_says notes content p zones.Index (stopped index x)).1
          (s.counts, (index, (past_metadata index).1 g, stretched zones.Index index segments x s)))
          ∙ ap (λ (z : ℕ). Some z) (the_end x))
      | BehindIndex index behind g h over ↦ (
          ap (λ (b : Option ℕ). option_or (option_map (over_fills notes) b)
          (stops_by (metadata_of notes p) (index_of notes p))) ((behind_is behind).1 (index, g, h))
          ∙ ap (λ (z : ℕ). Some z) ((over_says notes content behind x).1 over))
    ]
      where
        the_end : (x : ℕ) → x + 1 - 1 ≡ x
        the_end x = omega arith

        one_index : (a b : ℕ) → GoesPast zones.Metadata notes p.end header a
            → GoesPast zones.Metadata notes p.end header b → a ≡ b
        one_index a b g h = same_Some _ _ (sym ((behind_says notes content p a).1 ((past_metadata a).1 g))
            ∙ (behind_says notes content p b).1 ((past_metadata b).1 h))

        past_index : (index x : ℕ) → GoesPast zones.Metadata notes p.end header index → StopsAt notes index segments x
            → {y : ℕ} → ¬ IsPast y
        past_index index x g s {y} k = elim k.2 [
          | Nothing none same ↦ (let some = s.counts in omega (arith, some, none))
          | Counted some t c same ↦ (
              let at = one_index k.0 index k.1 g in
              let a = (stretch_says notes content zones.Index index segments t).1
              (inl (subst (λ (i : ℕ). IsCounted zones.Index notes i segments t) at c)) in
              let b = (stretch_says notes content zones.Index index segments (stopped index x)).1
              (stretched zones.Index index segments x s) in
              let both = ap opened (same_Some _ _ (sym a ∙ b)) in
              let closed = ap opened c.is in cc (both, closed))
        ]

    pub way_end_says : (x : ℕ) → (end_of_way notes p ≡ Some x) ↔ IsWayEnd notes p x
    way_end_says x = (λ e. end_tells x (behind_index notes p) refl e, says_end x)

    goes_on_by : (x : ℕ) (d : Option ℕ) → end_of_way notes p ≡ d
        → option_and_then (λ y. if is_free notes y then Some y else None) d ≡ Some x → GoesOnAt notes p x
    goes_on_by x None f e = absurd cc
    goes_on_by x (Some y) f e =
        let g = guarded (is_free notes y) (Some y) x e in
        let same = same_Some y x g.1 in
        let both = and_parts (is_in_file notes y) (not (is_held notes y)) g.0 in
        subst (GoesOnAt notes p) same (record {
          end = (way_end_says y).0 f;
          in_file = (in_file_says notes y).0 both.0;
          free = λ h. not-true-false (is_held notes y) both.1 ((is_held-says notes y).1 h);
        })

    pub goes_on_says : (x : ℕ) → (way_of notes p ≡ Some x) ↔ GoesOnAt notes p x
    unfolding way_of
    goes_on_says x = (
      λ e. goes_on_by x (end_of_way notes p) refl e,
      λ g. ap (λ (d : Option ℕ). option_and_then (λ y. if is_free notes y then Some y else None) d)
          ((way_end_says x).1 g.end) ∙ ap (λ b. if b then Some x else None) (free g),
    )
      where
        unheld : (b : Bool) → is_held notes x ≡ b → ¬ IsHeld notes x → not b ≡ true
        unheld true e f = absurd (f ((is_held-says notes x).0 e))
        unheld false e f = refl

        free : GoesOnAt notes p x → is_free notes x ≡ true
        free g = and_from (is_in_file notes x) (not (is_held notes x)) ((in_file_says notes x).1 g.in_file)
            (unheld (is_held notes x) refl g.free)

-- ---- the bytes of a way

module _ (notes : List NoteParts) (p : PartitionParts) where
  -- Each byte of packets that follow one another lies in one of them.
  in_one : (fills : List NoteParts) (from to y : ℕ) → Follow fills from to → from ≤ y → y < to
      → (n : NoteParts) × In n fills × (n.offset ≤ y) × (y < end_of n)
  in_one [] from to y f low high = absurd (omega (arith, f, low, high))
  in_one (n ∷ fills) from to y f low high = elim (cases_lt y (end_of n)) [
    | inl l ↦ (n, inl refl, (let at = f.0 in omega (arith, at, low)), l)
    | inr l ↦ (let k = in_one fills (end_of n) to y f.1 l high in (k.0, inr k.1, k.2, k.3))
  ]

  in_fill : (from to y : ℕ) → IsOver notes from to → from ≤ y → y < to → IsOnWay notes p y
  in_fill from to y o low high =
      let k = in_one o.fills from to y o.follow low high in
      let are = o.are k.0 k.1 in OfFill k.0 are.1 are.0 k.2 k.3

  before_or_on : (a y : ℕ) → (y < a) ⊎ (a ≤ y)
  before_or_on a y = cases_lt y a

  in_metadata : (index y : ℕ) → GoesPast zones.Metadata notes p.end p.pack.numbers.header_byte_count index
      → p.end ≤ y → y < index → IsOnWay notes p y
  in_metadata index y g low high = elim g [
    | Nothing none same ↦ absurd (omega (arith, same, low, high))
    | Counted some s c same ↦ (
        let from = ap (λ (s : Stretch). s.from) c.is in
        OfMetadata s (some, inl c) (ap opened c.is) (omega (arith, from, low)) (omega (arith, same, high)))
  ]

  in_segments : (index behind y : ℕ) → IsBehindMetadata notes p index
      → GoesPast zones.Index notes index p.pack.numbers.index_byte_count behind → index ≤ y → y < behind
      → IsOnWay notes p y
  in_segments index behind y b g low high = elim g [
    | Nothing none same ↦ absurd (omega (arith, same, low, high))
    | Counted some s c same ↦ (
        let from = ap (λ (s : Stretch). s.from) c.is in
        OfIndex s (some, (index, b, inl c)) (ap opened c.is) (omega (arith, from, low)) (omega (arith, same, high)))
  ]

  pub on_way : (x y : ℕ) → IsContent notes → IsWayEnd notes p x → p.end ≤ y → y < x → IsOnWay notes p y
  on_way x y content w low high = elim w [
    | BeforeMetadata s ↦ in_fill p.end x y s.over low high
    | BeforeIndex index g s ↦ elim (before_or_on index y) [
      | inl l ↦ in_metadata index y g low l
      | inr l ↦ in_fill index x y s.over l high
    ]
    | BehindIndex index behind g h over ↦ elim (before_or_on index y) [
      | inl l ↦ in_metadata index y g low l
      | inr l ↦ elim (before_or_on behind y) [
        | inl k ↦ in_segments index behind y ((past_metadata notes content p index).1 g) h l k
        | inr k ↦ in_fill behind x y over k high
      ]
    ]
  ]

  pub no_fill : (x : ℕ) (n : NoteParts) → IsWayEnd notes p x → StandsAlone notes n x → kind_of n.key ≡ kinds.Fill → ⊥
  no_fill x n w s = elim w [
    | BeforeMetadata k ↦ k.over.last n s
    | BeforeIndex index g k ↦ k.over.last n s
    | BehindIndex index behind g h over ↦ over.last n s
  ]
