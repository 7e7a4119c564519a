-- The last unit of an index: of one segment, and of those that a loop has passed.
use Rattle.mxf_views.proofs.Common.{◌≡◌, ◌∙◌, ◌↔◌, ◌<◌, ◌≤◌, ◌+◌, ◌-◌, ◌*◌, ◌==◌, ◌&&◌, ◌||◌, ◌++◌, ◌∷◌, ◌⊎◌, ◌≢◌, []}
use Rattle.mxf_views.proofs.Common.{ℕ, Bool, true, false, List, Option, None, Some, MatchOption, refl, sym, ap, subst}
use Rattle.mxf_views.proofs.Common.{inl, inr, append-nil, append_assoc, arith, eqb-true, if◌then◌else◌, lt-ltb}
use Rattle.mxf_views.proofs.Common.{ltb-true, max, min, nat_le, nat_lt, of_z, to_z, unsigned_abs, unwrap_or, w64, pos}
use Rattle.mxf_views.proofs.Common.{negsuc, ℤ, and_from, and_parts, cases_lt, le-leb, le-ltb, leb-true, NoteParts, In}
use Rattle.mxf_views.proofs.Common.{In-append, In-end, covers_constant, covers_entry, entry_offset, stream_offset}
use Rattle.mxf_views.proofs.Common.{SegmentParts, entry_count, is_constant, SegmentAtParts, greatest_unit, segments_of}
use Rattle.std.proofs.Common.{FitsSigned, ◌≤ℤ◌}
use Rattle.std.proofs.lemmas.Int.{to_z-of_z}
use Rattle.mxf_views.proofs.SegmentLaws.{segments_are}
use Rattle.mxf_units.specs.LastUnits.{GivesPlace, HasNoEnd, HasNoLastUnit, IsEndless, IsLastUnit, IsLastWith, IsPlaced}
use Rattle.mxf_units.specs.LastUnits.{NoneWith}

-- ---- the units of one segment

some_when : (b : Bool) (x : ℕ) → b ≡ true → (if b then Some x else None) ≡ Some x
some_when b x e = ap (λ c. if c then Some x else None) e

when_some : (b : Bool) (x y : ℕ) → (if b then Some x else None) ≡ Some y → b ≡ true
when_some true x y e = refl
when_some false x y e = absurd cc

by_size : (s : SegmentParts) (unit : ℕ) → is_constant s.numbers ≡ true
    → stream_offset s unit ≡ (if covers_constant s unit then Some (s.numbers.unit_bytes * unit) else None)
by_size s unit e =
    let size = if covers_constant s unit then Some (s.numbers.unit_bytes * unit) else None in
    let place = unit - unsigned_abs s.numbers.start in
    let entry = if covers_entry s unit then Some (entry_offset s place) else None in
    ap (λ b. if b then size else entry) e

by_entry : (s : SegmentParts) (unit : ℕ) → is_constant s.numbers ≡ false → stream_offset s unit
    ≡ (if covers_entry s unit then Some (entry_offset s (unit - unsigned_abs s.numbers.start)) else None)
by_entry s unit e =
    let size = if covers_constant s unit then Some (s.numbers.unit_bytes * unit) else None in
    let place = unit - unsigned_abs s.numbers.start in
    let entry = if covers_entry s unit then Some (entry_offset s place) else None in
    ap (λ b. if b then size else entry) e

-- A whole number is 0 where its absolute value is.
abs-zero : (z : ℤ) → unsigned_abs z ≡ 0 → z ≡ pos 0
abs-zero (pos n) e = ap pos e
abs-zero (negsuc n) e = absurd (omega (arith, e))

-- It is that of the number as it is kept.
pub abs-kept : (z : ℤ) → FitsSigned w64 z → unsigned_abs (to_z w64 (of_z w64 z)) ≡ unsigned_abs z
abs-kept z fits = ap unsigned_abs (to_z-of_z w64 z fits)

-- A number of eight bytes that isn't negative is one that can be asked for.
pub small_number : (z : ℤ) → pos 0 ≤ℤ z → FitsSigned w64 z → unsigned_abs z ≤ greatest_unit
small_number (pos n) low fits = omega (arith, fits)
small_number (negsuc n) low fits = absurd (omega (arith, low))

-- So many units, from the start on.
abbrev pub AreUnits : SegmentParts → ℕ → Type 0
AreUnits s count = (unit : ℕ) → GivesPlace s unit
    ↔ ((unsigned_abs s.numbers.start ≤ unit) × (unit < unsigned_abs s.numbers.start + count))

pub units-constant : (s : SegmentParts) → ¬ IsEndless s → 0 < s.numbers.unit_bytes
    → AreUnits s (unsigned_abs s.numbers.duration)
units-constant s ends some =
    let start = unsigned_abs s.numbers.start in
    let duration = unsigned_abs s.numbers.duration in
    let constant : is_constant s.numbers ≡ true = lt-ltb _ _ some in
    let not_zero : (duration == 0) ≡ false =
    elim (duration == 0) as (λ b. (duration == 0) ≡ b → b ≡ false) [
      | true ↦ λ e. absurd (ends record { one_size = some; duration = abs-zero s.numbers.duration (eqb-true _ _ e) })
      | false ↦ λ e. refl
    ] refl in
    λ unit. (
      λ g.
          let e = when_some (covers_constant s unit) (s.numbers.unit_bytes * unit) g.offset
          (sym (by_size s unit constant) ∙ g.given) in
          let p = and_parts (nat_le start unit) ((duration == 0) || nat_lt unit (start + duration)) e in
          let l : nat_lt unit (start + duration) ≡ true =
          subst (λ b. (b || nat_lt unit (start + duration)) ≡ true) not_zero p.1 in
          (leb-true _ _ p.0, ltb-true _ _ l),
      λ h.
          let l : ((duration == 0) || nat_lt unit (start + duration)) ≡ true =
          subst (λ b. (b || nat_lt unit (start + duration)) ≡ true) (sym not_zero) (lt-ltb _ _ h.1) in
          let e = and_from (nat_le start unit) ((duration == 0) || nat_lt unit (start + duration)) (le-leb _ _ h.0) l in
          record {
            offset = s.numbers.unit_bytes * unit;
            given = by_size s unit constant ∙ some_when (covers_constant s unit) (s.numbers.unit_bytes * unit) e;
          },
    )

pub units-listed : (s : SegmentParts) → s.numbers.unit_bytes ≤ 0
    → AreUnits s (min (unsigned_abs s.numbers.duration) (entry_count s))
units-listed s none =
    let start = unsigned_abs s.numbers.start in
    let duration = unsigned_abs s.numbers.duration in
    let count = entry_count s in
    let listed : is_constant s.numbers ≡ false = le-ltb 0 s.numbers.unit_bytes none in
    λ unit.
    let place = unit - start in
    let first = nat_le start unit && nat_lt unit (start + duration) in (
      λ g.
          let e = when_some (covers_entry s unit) (entry_offset s place) g.offset
          (sym (by_entry s unit listed) ∙ g.given) in
          let p = and_parts first (nat_lt place count) e in
          let q = and_parts (nat_le start unit) (nat_lt unit (start + duration)) p.0 in
          let a = leb-true start unit q.0 in
          let b = ltb-true unit (start + duration) q.1 in
          let c = ltb-true place count p.1 in (a, omega (arith, a, b, c)),
      λ h.
          let a = h.0 in
          let b = h.1 in
          let q = and_from (nat_le start unit) (nat_lt unit (start + duration)) (le-leb _ _ a)
          (lt-ltb _ _ (omega (arith, a, b))) in
          let e = and_from first (nat_lt place count) q (lt-ltb _ _ (omega (arith, a, b))) in
          record {
            offset = entry_offset s place;
            given = by_entry s unit listed ∙ some_when (covers_entry s unit) (entry_offset s place) e;
          },
    )

-- The last of so many units, and that there is none of none.
pub last-of : (s : SegmentParts) (count : ℕ) → AreUnits s count → 0 < count
    → unsigned_abs s.numbers.start ≤ greatest_unit
    → IsLastWith (GivesPlace s) (min (unsigned_abs s.numbers.start + (count - 1)) greatest_unit)
last-of s count are some small =
    let start = unsigned_abs s.numbers.start in
    let last = min (start + (count - 1)) greatest_unit in
    record {
      has = (are last).1 (omega (arith, small), omega (arith, some));
      in_range = omega arith;
      others = λ unit l g. let h = (are unit).0 g in let k = h.1 in omega (arith, k, l);
    }

pub none-of : (s : SegmentParts) (count : ℕ) → AreUnits s count → count ≡ 0 → NoneWith (GivesPlace s)
none-of s count are none = λ unit l g. let h = (are unit).0 g in let a = h.0 in let b = h.1 in omega (arith, a, b, none)

-- ---- the units of several segments

-- One of these segments, of the IndexSID, gives the unit a place.
pub record IsAmong (segments : List SegmentAtParts) (index_sid unit : ℕ) : Type 0 where
  pub by : SegmentAtParts
  pub held : In by segments
  pub index : by.segment.numbers.index_sid ≡ index_sid
  pub place : GivesPlace by.segment unit

-- The last unit with a property, or that none has it.
abbrev pub IsLastOr : (ℕ → Type 0) → Option ℕ → Type 0
IsLastOr P None = NoneWith P
IsLastOr P (Some last) = IsLastWith P last

-- So many segments have been passed, all of which end, with the last unit of them; these are to come.
pub record HasPassed (all rest : List SegmentAtParts) (index_sid : ℕ) (last : Option ℕ) : Type 0 where
  pub passed : List SegmentAtParts
  pub whole : passed ++ rest ≡ all
  pub ends : (s : SegmentAtParts) → In s passed → s.segment.numbers.index_sid ≡ index_sid → ¬ IsEndless s.segment
  pub found : IsLastOr (IsAmong passed index_sid) last

-- Properties with the same units have the same last one.
last-same : (P Q : ℕ → Type 0) (last : Option ℕ) → ((unit : ℕ) → P unit ↔ Q unit) → IsLastOr P last → IsLastOr Q last
last-same P Q None same is = λ unit l q. is unit l ((same unit).1 q)
last-same P Q (Some last) same is =
    record {
      has = (same last).0 is.has;
      in_range = is.in_range;
      others = λ unit l q. is.others unit l ((same unit).1 q);
    }

-- The last unit with one of two properties is the greater of two.
last-either : (P Q : ℕ → Type 0) (last : Option ℕ) (unit : ℕ) → IsLastOr P last → IsLastWith Q unit
    → IsLastWith (λ u. P u ⊎ Q u) (max unit (unwrap_or last 0))
last-either P Q None unit none is =
    let e : max unit 0 ≡ unit = omega arith in
    subst (IsLastWith (λ u. P u ⊎ Q u)) (sym e) record {
      has = inr is.has;
      in_range = is.in_range;
      others = λ u l h. elim h [ inl p ↦ absurd (none u l p) | inr q ↦ is.others u l q ];
    }
last-either P Q (Some last) unit was is =
    elim (cases_lt last unit) [
      | inl l ↦
          let e : max unit last ≡ unit = omega (arith, l) in
          subst (IsLastWith (λ u. P u ⊎ Q u)) (sym e) record {
            has = inr is.has;
            in_range = is.in_range;
            others = λ u k h. elim h [
              | inl p ↦ let m = was.others u k p in omega (arith, m, l)
              | inr q ↦ is.others u k q
            ];
          }
      | inr l ↦
          let e : max unit last ≡ last = omega (arith, l) in
          subst (IsLastWith (λ u. P u ⊎ Q u)) (sym e) record {
            has = inl was.has;
            in_range = was.in_range;
            others = λ u k h. elim h [
              | inl p ↦ was.others u k p
              | inr q ↦ let m = is.others u k q in omega (arith, m, l)
            ];
          }
    ]

-- Of one segment more.
among-more : (passed : List SegmentAtParts) (s : SegmentAtParts) (index_sid unit : ℕ)
    → IsAmong (passed ++ s ∷ []) index_sid unit
    ↔ (IsAmong passed index_sid unit ⊎ ((s.segment.numbers.index_sid ≡ index_sid) × GivesPlace s.segment unit))
among-more passed s index_sid unit = (
  λ g. elim ((In-end g.by s passed (passed ++ s ∷ []) refl).0 g.held) [
    | inl h ↦ inl record { by = g.by; held = h; index = g.index; place = g.place }
    | inr e ↦ grind arith
  ],
  λ h. elim h [
    | inl g ↦
        record {
          by = g.by;
          held = (In-end g.by s passed (passed ++ s ∷ []) refl).1 (inl g.held);
          index = g.index;
          place = g.place;
        }
    | inr p ↦
        record { by = s; held = (In-end s s passed (passed ++ s ∷ []) refl).1 (inr refl); index = p.0; place = p.1 }
  ],
)

module _ (all before rest : List SegmentAtParts) (s : SegmentAtParts) (index_sid : ℕ) (last : Option ℕ)
    (next : before ≡ s ∷ rest) (was : HasPassed all before index_sid last) where
  whole-more : (was.passed ++ s ∷ []) ++ rest ≡ all
  whole-more =
      append_assoc was.passed (s ∷ []) rest ∙ ap (λ (l : List SegmentAtParts). was.passed ++ l) (sym next) ∙ was.whole

  ends-more : (s.segment.numbers.index_sid ≡ index_sid → ¬ IsEndless s.segment) → (t : SegmentAtParts)
      → In t (was.passed ++ s ∷ []) → t.segment.numbers.index_sid ≡ index_sid → ¬ IsEndless t.segment
  ends-more ends t h e endless =
      elim ((In-end t s was.passed (was.passed ++ s ∷ []) refl).0 h) [
        | inl k ↦ was.ends t k e endless
        | inr same ↦ grind arith
      ]

  -- The segment is one of another index.
  pub other-passed : s.segment.numbers.index_sid ≢ index_sid → HasPassed all rest index_sid last
  other-passed other =
      record {
        passed = was.passed ++ s ∷ [];
        whole = whole-more;
        ends = ends-more (λ e. absurd (other e));
        found = last-same (IsAmong was.passed index_sid) (IsAmong (was.passed ++ s ∷ []) index_sid) last
            (λ unit. (
              λ g. (among-more was.passed s index_sid unit).1 (inl g),
              λ g. elim ((among-more was.passed s index_sid unit).0 g) [ inl h ↦ h | inr p ↦ absurd (other p.0) ],
            )) was.found;
      }

  -- It gives no unit a place.
  pub none-more : ¬ IsEndless s.segment → NoneWith (GivesPlace s.segment) → HasPassed all rest index_sid last
  none-more ends none =
      record {
        passed = was.passed ++ s ∷ [];
        whole = whole-more;
        ends = ends-more (λ e. ends);
        found = by_last last was.found;
      }
    where
      by_last : (last : Option ℕ) → IsLastOr (IsAmong was.passed index_sid) last
          → IsLastOr (IsAmong (was.passed ++ s ∷ []) index_sid) last
      by_last None is =
          λ unit l g. elim ((among-more was.passed s index_sid unit).0 g) [
            | inl h ↦ is unit l h
            | inr p ↦ none unit l p.1
          ]
      by_last (Some n) is =
          record {
            has = (among-more was.passed s index_sid n).1 (inl is.has);
            in_range = is.in_range;
            others = λ unit l g. elim ((among-more was.passed s index_sid unit).0 g) [
              | inl h ↦ is.others unit l h
              | inr p ↦ absurd (none unit l p.1)
            ];
          }

  -- It has a last unit.
  pub last-more : (unit : ℕ) → s.segment.numbers.index_sid ≡ index_sid → ¬ IsEndless s.segment
      → IsLastWith (GivesPlace s.segment) unit → HasPassed all rest index_sid (Some (max unit (unwrap_or last 0)))
  last-more unit same ends is =
      record {
        passed = was.passed ++ s ∷ [];
        whole = whole-more;
        ends = ends-more (λ e. ends);
        found = last-same (λ u. IsAmong was.passed index_sid u ⊎ GivesPlace s.segment u)
            (IsAmong (was.passed ++ s ∷ []) index_sid) (Some (max unit (unwrap_or last 0)))
            (λ u. (
              λ h. (among-more was.passed s index_sid u).1 (elim h [ inl g ↦ inl g | inr p ↦ inr (same, p) ]),
              λ g. elim ((among-more was.passed s index_sid u).0 g) [ inl h ↦ inl h | inr p ↦ inr p.1 ],
            )) (last-either (IsAmong was.passed index_sid) (GivesPlace s.segment) last unit was.found is);
      }

  -- It is endless.
  pub endless-more : (notes : List NoteParts) → all ≡ segments_of notes → s.segment.numbers.index_sid ≡ index_sid
      → IsEndless s.segment → HasNoEnd notes index_sid
  endless-more notes are same endless =
      record {
        by = s;
        segment = (segments_are notes s).0 (subst (λ (l : List SegmentAtParts). In s l) are
            (subst (λ (l : List SegmentAtParts). In s l) was.whole ((In-append s was.passed before).1
            (inr (subst (λ (l : List SegmentAtParts). In s l) (sym next) (inl refl))))));
        index = same;
        endless = endless;
      }

-- ---- the last unit of an index

among-placed : (notes : List NoteParts) (index_sid unit : ℕ)
    → IsAmong (segments_of notes) index_sid unit ↔ IsPlaced notes index_sid unit
among-placed notes index_sid unit = (
  λ g. record { by = g.by; segment = (segments_are notes g.by).0 g.held; index = g.index; place = g.place },
  λ g. record { by = g.by; held = (segments_are notes g.by).1 g.segment; index = g.index; place = g.place },
)

-- All segments have been passed.
pub all-passed : (notes : List NoteParts) (index_sid : ℕ) (rest : List SegmentAtParts) (last : Option ℕ) → rest ≡ []
    → HasPassed (segments_of notes) rest index_sid last
    → MatchOption last (HasNoLastUnit notes index_sid) (IsLastUnit notes index_sid)
all-passed notes index_sid rest last ended was =
    let whole : was.passed ≡ segments_of notes =
    sym (append-nil was.passed) ∙ ap (λ (l : List SegmentAtParts). was.passed ++ l) (sym ended) ∙ was.whole in
    let held = λ (s : SegmentAtParts) (h : In s (segments_of notes)).
    subst (λ (l : List SegmentAtParts). In s l) (sym whole) h in
    let ends : ¬ HasNoEnd notes index_sid = λ h.
    was.ends h.by (held h.by ((segments_are notes h.by).1 h.segment)) h.index h.endless in
    let is = last-same (IsAmong was.passed index_sid) (IsPlaced notes index_sid) last
    (λ unit. subst (λ (l : List SegmentAtParts). IsAmong l index_sid unit ↔ IsPlaced notes index_sid unit) (sym whole)
    (among-placed notes index_sid unit)) was.found in
    by_last last ends is
  where
    by_last : (last : Option ℕ) → ¬ HasNoEnd notes index_sid → IsLastOr (IsPlaced notes index_sid) last
        → MatchOption last (HasNoLastUnit notes index_sid) (IsLastUnit notes index_sid)
    by_last None ends none = inr none
    by_last (Some n) ends is = record { ends = ends; greatest = is }

-- There is one at most.
pub one-last : (notes : List NoteParts) (index_sid a b : ℕ) → IsLastUnit notes index_sid a
    → IsLastUnit notes index_sid b → a ≡ b
one-last notes index_sid a b f g =
    let l = f.greatest.others b g.greatest.in_range g.greatest.has in
    let m = g.greatest.others a f.greatest.in_range f.greatest.has in omega (arith, l, m)

pub one-or-none : (notes : List NoteParts) (index_sid last : ℕ) → IsLastUnit notes index_sid last
    → ¬ HasNoLastUnit notes index_sid
one-or-none notes index_sid last is other =
    elim other [ inl h ↦ is.ends h | inr none ↦ none last is.greatest.in_range is.greatest.has ]
