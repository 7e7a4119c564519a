-- Differences as they are noted: what becomes of them where one more is noted, and that those which are joined by their
-- first offsets are where sources differ.
use Rattle.mxf_views.proofs.Common.{◌≡◌, ◌≢◌, ◌∙◌, ◌==◌, ◌↔◌, ◌⊎◌, ◌<◌, ◌≤◌, ◌+◌, ◌-◌, ℕ, zero, suc, List, [], ◌∷◌}
use Rattle.mxf_views.proofs.Common.{◌++◌, None, Some, true, false, if◌then◌else◌, get_or, length, map, max, nat_le}
use Rattle.mxf_views.proofs.Common.{nat_lt, refl, sym, ap, subst, inl, inr, arith, eq-eqb, eqb-true, lt-ltb, ltb-true}
use Rattle.mxf_views.proofs.Common.{at_drop_all, and_from, and_parts, cases_lt, false≢true, Contains-permutation}
use Rattle.mxf_views.proofs.Common.{IsPermutation-sym, same_Some, slice_get-get_or, slice_get, slice_set}
use Rattle.mxf_views.proofs.Common.{AllByRecursion, IsNonDecreasingBy, IsPermutation, In, Contains-from_In}
use Rattle.mxf_views.proofs.Common.{In-from_Contains, In-map, all-In, all_from_In, IsCover, union_of_runs}
use Rattle.mxf_views.proofs.Common.{union_of_runs-IsUnion, LiesIn}
use Rattle.mxf_catalogue.specs.declared.run.Run.{Run}
use Rattle.std.proofs.Common.{leb-true, le-leb}
use Rattle.std.specs.Prelude.{drop, min, Err, Ok, OnErr, OnOk, Result}
use Rattle.mxf_klv.specs.declared.memory.OutOfMemory.{OutOfMemory}
use Rattle.std.proofs.lemmas.Option.{none-some}
use Rattle.mxf_hand.specs.Given.{Differ, IsDiffering, IsGivenAs, SourceParts}
use Rattle.mxf_hand.specs.Differing.{AreJoined, DifferAt, GivesAll, GivesAt, IsDifference, IsDifferenceOf}
use Rattle.mxf_hand.specs.Differing.{LiesInDifference, LiesInOne, difference, is_near, run_of_difference, with_all}
use Rattle.mxf_hand.specs.Differing.{with_bytes, with_near}
use Rattle.mxf_hand.specs.declared.given.differing.Difference.{Difference}
use Rattle.mxf_hand.proofs.PlacingLaws.{IsCover-all}

-- ---- one difference more, by the place of the last

pub with_near_grown : (k : ℕ) (last next : Difference) (ds : List Difference) → k + 1 ≡ length ds
    → get_or ds k last ≡ last → is_near last next ≡ true
    → slice_set ds k (difference last.first (max last.last next.last)) ≡ with_near ds next
with_near_grown k last next [] l at near = absurd (omega arith)
with_near_grown zero last next (d ∷ []) l at near =
    let same : d ≡ last = at in
    let first = ap (λ (e : Difference). e.first) same in
    let end = ap (λ (e : Difference). e.last) same in
    sym ((ap (λ b. if b then difference d.first (max d.last next.last) ∷ [] else d ∷ next ∷ [])
    (ap (λ (e : Difference). is_near e next) same ∙ near)) ∙ (λ i. difference (first i) (max (end i) next.last) ∷ []))
with_near_grown zero last next (d ∷ e ∷ ds) l at near = absurd (omega arith)
with_near_grown (suc k) last next (d ∷ []) l at near = absurd (omega arith)
with_near_grown (suc k) last next (d ∷ e ∷ ds) l at near =
    ap (λ (rest : List Difference). d ∷ rest) (with_near_grown k last next (e ∷ ds) (omega arith) at near)

pub with_near_behind : (k : ℕ) (last next : Difference) (ds : List Difference) → k + 1 ≡ length ds
    → get_or ds k last ≡ last → is_near last next ≡ false → ds ++ next ∷ [] ≡ with_near ds next
with_near_behind k last next [] l at far = absurd (omega arith)
with_near_behind zero last next (d ∷ []) l at far =
    sym (ap (λ b. if b then difference d.first (max d.last next.last) ∷ [] else d ∷ next ∷ [])
    (ap (λ (e : Difference). is_near e next) at ∙ far))
with_near_behind zero last next (d ∷ e ∷ ds) l at far = absurd (omega arith)
with_near_behind (suc k) last next (d ∷ []) l at far = absurd (omega arith)
with_near_behind (suc k) last next (d ∷ e ∷ ds) l at far =
    ap (λ (rest : List Difference). d ∷ rest) (with_near_behind k last next (e ∷ ds) (omega arith) at far)

pub with_near_first : (ds : List Difference) (next : Difference) → None ≡ slice_get ds (length ds - 1)
    → ds ++ next ∷ [] ≡ with_near ds next
with_near_first [] next e = refl
with_near_first (d ∷ ds) next e = absurd (none_there (slice_get-get_or (d ∷ ds) (length (d ∷ ds) - 1) d (omega arith)))
  where
    none_there : slice_get (d ∷ ds) (length (d ∷ ds) - 1) ≡ Some (get_or (d ∷ ds) (length (d ∷ ds) - 1) d) → ⊥
    none_there s = none-some (get_or (d ∷ ds) (length (d ∷ ds) - 1) d) (e ∙ s)

-- What noting one more gives behind a last one.
with_near_cases : (d next : Difference) (P : List Difference → Type 0)
    → (d.first ≤ next.first → next.first < d.last + 512 → P (difference d.first (max d.last next.last) ∷ []))
    → ((d.first ≤ next.first → d.last + 512 ≤ next.first) → P (d ∷ next ∷ [])) → P (with_near (d ∷ []) next)
with_near_cases d next P near far = elim (is_near d next) as (λ b. is_near d next ≡ b
    → P (if b then difference d.first (max d.last next.last) ∷ [] else d ∷ next ∷ [])) [
      | true ↦ λ e.
          let both = and_parts (nat_le d.first next.first) (nat_lt (next.first - d.last) 512) e in
          let below = ltb-true (next.first - d.last) 512 both.1 in
          near (leb-true d.first next.first both.0) (omega (arith, below))
      | false ↦ λ e. far (λ from. elim (cases_lt (next.first - d.last) 512) [
        | inl below ↦ absurd (false≢true (sym e
            ∙ and_from (nat_le d.first next.first) (nat_lt (next.first - d.last) 512) (le-leb d.first next.first from)
            (lt-ltb (next.first - d.last) 512 below)))
        | inr above ↦ omega (arith, above)
      ])
    ] refl

-- What holds of each difference, and where two are near of the one that they make, holds where one more is noted.
all_with_near : (P : Difference → Type 0)
    → ((d next : Difference) → P d → P next → d.first ≤ next.first → next.first < d.last + 512
    → P (difference d.first (max d.last next.last)))
    → (ds : List Difference) (next : Difference) → AllByRecursion P ds → P next → AllByRecursion P (with_near ds next)
all_with_near P join [] next all one = (one, tt)
all_with_near P join (d ∷ []) next all one =
    with_near_cases d next (AllByRecursion P) (λ from near. (join d next all.0 one from near, tt))
    (λ far. (all.0, (one, tt)))
all_with_near P join (d ∷ e ∷ ds) next all one = (all.0, all_with_near P join (e ∷ ds) next all.1 one)

all_with_all : (P : Difference → Type 0)
    → ((d next : Difference) → P d → P next → d.first ≤ next.first → next.first < d.last + 512
    → P (difference d.first (max d.last next.last)))
    → (ds others : List Difference) → AllByRecursion P ds → AllByRecursion P others
    → AllByRecursion P (with_all ds others)
all_with_all P join ds [] all more = all
all_with_all P join ds (next ∷ others) all more =
    all_with_all P join (with_near ds next) others (all_with_near P join ds next all more.0) more.1

-- ---- they lie below the greatest end

pub differences_with_near : (ds : List Difference) (next : Difference) → AllByRecursion IsDifference ds
    → IsDifference next → AllByRecursion IsDifference (with_near ds next)
differences_with_near = all_with_near IsDifference (λ d next one other from near.
    let order = one.order in
    let low = one.within in
    let high = other.within in record { order = omega (arith, order); within = omega (arith, low, high) })

-- ---- their offsets

lies_first : (d : Difference) (ds : List Difference) (x : ℕ) → LiesInDifference d x → LiesInOne (d ∷ ds) x
lies_first d ds x l = (d, inl refl, l)

lies_later : (d : Difference) (ds : List Difference) (x : ℕ) → LiesInOne ds x → LiesInOne (d ∷ ds) x
lies_later d ds x l = (l.0, inr l.1, l.2)

lies_cases : (d : Difference) (ds : List Difference) (x : ℕ) → LiesInOne (d ∷ ds) x
    → LiesInDifference d x ⊎ LiesInOne ds x
lies_cases d ds x (e, inl same, l) = inl (subst (λ (f : Difference). LiesInDifference f x) same l)
lies_cases d ds x (e, inr h, l) = inr (e, h, l)

-- No offset is lost, and those of the new one are there.
lies_with_near : (ds : List Difference) (next : Difference) (x : ℕ) → LiesInOne ds x ⊎ LiesInDifference next x
    → LiesInOne (with_near ds next) x
lies_with_near [] next x l = elim l [ inl none ↦ absurd none.1 | inr k ↦ lies_first next [] x k ]
lies_with_near (d ∷ []) next x l = with_near_cases d next (λ ds. LiesInOne ds x)
    (λ from near. lies_first (difference d.first (max d.last next.last)) [] x (elim l [
      | inl k ↦ elim (lies_cases d [] x k) [
        | inl m ↦ (let low = m.from in let high = m.to in record { from = low; to = omega (arith, high) })
        | inr none ↦ absurd none.1
      ]
      | inr m ↦ (let low = m.from in let high = m.to in
          record { from = omega (arith, low, from); to = omega (arith, high) })
    ]))
    (λ far. elim l [
      | inl k ↦ elim (lies_cases d [] x k) [ inl m ↦ lies_first d (next ∷ []) x m | inr none ↦ absurd none.1 ]
      | inr m ↦ lies_later d (next ∷ []) x (lies_first next [] x m)
    ])
lies_with_near (d ∷ e ∷ ds) next x l =
    elim l [
      | inl k ↦ elim (lies_cases d (e ∷ ds) x k) [
        | inl m ↦ lies_first d (with_near (e ∷ ds) next) x m
        | inr m ↦ lies_later d (with_near (e ∷ ds) next) x (lies_with_near (e ∷ ds) next x (inl m))
      ]
      | inr m ↦ lies_later d (with_near (e ∷ ds) next) x (lies_with_near (e ∷ ds) next x (inr m))
    ]

lies_with_all : (ds others : List Difference) (x : ℕ) → LiesInOne ds x ⊎ LiesInOne others x
    → LiesInOne (with_all ds others) x
lies_with_all ds [] x l = elim l [ inl k ↦ k | inr none ↦ absurd none.1 ]
lies_with_all ds (next ∷ others) x l =
    lies_with_all (with_near ds next) others x (elim l [
      | inl k ↦ inl (lies_with_near ds next x (inl k))
      | inr k ↦ elim (lies_cases next others x k) [ inl m ↦ inl (lies_with_near ds next x (inr m)) | inr m ↦ inr m ]
    ])

-- ---- that sources differ there

module _ (sources : List SourceParts) where
  join_of : (d next : Difference) → IsDifferenceOf sources d → IsDifferenceOf sources next → d.first ≤ next.first
      → next.first < d.last + 512 → IsDifferenceOf sources (difference d.first (max d.last next.last))
  join_of d next one other from near =
      let order = one.order in record {
        first_differs = one.first_differs;
        last_differs = elim (cases_lt d.last next.last) [
          | inl above ↦ (
              let same : next.last ≡ max d.last next.last = omega (arith, above) in
              subst (Differ sources) same other.last_differs)
          | inr below ↦ (
              let same : d.last ≡ max d.last next.last = omega (arith, below) in
              subst (Differ sources) same one.last_differs)
        ];
        order = omega (arith, order);
        around = λ x l.
            let low : d.first ≤ x = l.from in
            let high : x ≤ max d.last next.last = l.to in
            elim (cases_lt d.last x) [
              | inl above ↦ elim (cases_lt x next.first) [
                | inl between ↦ record {
                  from = d.last;
                  to = next.first;
                  from_differs = one.last_differs;
                  to_differs = other.first_differs;
                  above = omega (arith, above);
                  below = omega (arith, between);
                  near = near;
                }
                | inr reached ↦ other.around x (record { from = reached; to = omega (arith, above, high) })
              ]
              | inr below ↦ one.around x (record { from = low; to = below })
            ];
      }

  pub sound_with_near : (ds : List Difference) (next : Difference) → AllByRecursion (IsDifferenceOf sources) ds
      → IsDifferenceOf sources next → AllByRecursion (IsDifferenceOf sources) (with_near ds next)
  sound_with_near = all_with_near (IsDifferenceOf sources) join_of

-- ---- bytes beside others

module _ (sources : List SourceParts) (p q : ℕ) where
  In-source : (ss : List SourceParts) (k : ℕ) (s : SourceParts) → slice_get ss k ≡ Some s → In s ss
  In-source [] k s is = absurd cc
  In-source (t ∷ ss) zero s is = inl (sym (same_Some t s is))
  In-source (t ∷ ss) (suc k) s is = inr (In-source ss k s is)

  pub given_as : (number x byte : ℕ) → GivesAt sources number x byte → IsGivenAs sources x byte
  given_as number x byte g = (g.0, In-source sources number g.0 g.1, g.2)

  -- A source gives one byte at an offset.
  pub one_byte : (number x a b : ℕ) → GivesAt sources number x a → GivesAt sources number x b → a ≡ b
  one_byte number x a b g h =
      let same = same_Some g.0 h.0 (sym g.1 ∙ h.1) in
      same_Some a b (sym g.2.is ∙ (λ i. slice_get (same i).bytes (x - (same i).offset)) ∙ h.2.is)

  pub is_difference : (x a b : ℕ) → GivesAt sources p x a → GivesAt sources q x b → a ≢ b
      → IsDifferenceOf sources (difference x x)
  is_difference x a b g h ne =
      let there : Differ sources x =
      record {
        one = a;
        other = b;
        gives_one = given_as p x a g;
        gives_other = given_as q x b h;
        differs = ne;
      } in record {
        first_differs = there;
        last_differs = there;
        order = omega arith;
        around = λ y l.
            let low = l.from in
            let high = l.to in record {
              from = x;
              to = x;
              from_differs = there;
              to_differs = there;
              above = low;
              below = high;
              near = omega arith;
            };
      }

  not_same : (a b : ℕ) → (a == b) ≡ false → a ≢ b
  not_same a b e same = false≢true (sym e ∙ eq-eqb a b same)

  pub sound_with_bytes : (ds : List Difference) (at : ℕ) (bytes others : List ℕ) → GivesAll sources p at bytes
      → GivesAll sources q at others → AllByRecursion (IsDifferenceOf sources) ds
      → AllByRecursion (IsDifferenceOf sources) (with_bytes ds at bytes others)
  sound_with_bytes ds at [] others g h all = all
  sound_with_bytes ds at (a ∷ bytes) [] g h all = all
  sound_with_bytes ds at (a ∷ bytes) (b ∷ others) g h all =
      elim (a == b) as (λ c. (a == b) ≡ c → AllByRecursion (IsDifferenceOf sources)
      (with_bytes (if c then ds else with_near ds (difference at at)) (at + 1) bytes others)) [
        | true ↦ λ e. sound_with_bytes ds (at + 1) bytes others g.1 h.1 all
        | false ↦ λ e. sound_with_bytes (with_near ds (difference at at)) (at + 1) bytes others g.1 h.1
            (sound_with_near sources ds (difference at at) all (is_difference at a b g.0 h.0 (not_same a b e)))
      ] refl

  pub kept_with_bytes : (ds : List Difference) (at : ℕ) (bytes others : List ℕ) (x : ℕ) → LiesInOne ds x
      → LiesInOne (with_bytes ds at bytes others) x
  kept_with_bytes ds at [] others x l = l
  kept_with_bytes ds at (a ∷ bytes) [] x l = l
  kept_with_bytes ds at (a ∷ bytes) (b ∷ others) x l = elim (a == b) as (λ c. LiesInOne
      (with_bytes (if c then ds else with_near ds (difference at at)) (at + 1) bytes others) x) [
        | true ↦ kept_with_bytes ds (at + 1) bytes others x l
        | false ↦ kept_with_bytes (with_near ds (difference at at)) (at + 1) bytes others x
            (lies_with_near ds (difference at at) x (inl l))
      ]

  pub found_with_bytes : (ds : List Difference) (at : ℕ) (bytes others : List ℕ) (x : ℕ)
      → GivesAll sources p at bytes → GivesAll sources q at others → length others ≡ length bytes → at ≤ x
      → x < at + length bytes → DifferAt sources p q x → LiesInOne (with_bytes ds at bytes others) x
  found_with_bytes ds at [] others x g h same from before d = absurd (omega (arith, from, before))
  found_with_bytes ds at (a ∷ bytes) [] x g h same from before d = absurd (omega (arith, same))
  found_with_bytes ds at (a ∷ bytes) (b ∷ others) x g h same from before d =
      let next = if a == b then ds else with_near ds (difference at at) in
      elim (cases_lt at x) [
        | inl above ↦ found_with_bytes next (at + 1) bytes others x g.1 h.1 (omega (arith, same)) (omega (arith, above))
            (omega (arith, before)) d
        | inr here ↦ (
            let is : x ≡ at = omega (arith, from, here) in
            let one = one_byte p at d.one a (subst (λ y. GivesAt sources p y d.one) is d.gives_one) g.0 in
            let other = one_byte q at d.other b (subst (λ y. GivesAt sources q y d.other) is d.gives_other) h.0 in
            elim (a == b) as (λ c. (a == b) ≡ c → LiesInOne
            (with_bytes (if c then ds else with_near ds (difference at at)) (at + 1) bytes others) x) [
              | true ↦ λ e. absurd (d.differs (one ∙ eqb-true a b e ∙ sym other))
              | false ↦ λ e. kept_with_bytes (with_near ds (difference at at)) (at + 1) bytes others x
                  (lies_with_near ds (difference at at) x (inr (record { from = from; to = here })))
            ] refl)
      ]

-- ---- joined by their first offsets

-- Each begins at least 512 above the last offset of the one before.
abbrev AreFar : ℕ → List Difference → Type 0
AreFar low [] = Unit {0}
AreFar low (d ∷ ds) = (low ≤ d.first) × (d.first ≤ d.last) × AreFar (d.last + 512) ds

far_with_near : (low : ℕ) (ds : List Difference) (next : Difference) → AreFar low ds → low ≤ next.first
    → next.first ≤ next.last → AllByRecursion (λ d. d.first ≤ next.first) ds → AreFar low (with_near ds next)
far_with_near low [] next far from order below = (from, order, tt)
far_with_near low (d ∷ []) next far from order below =
    let least = far.0 in
    let some = far.1 in
    with_near_cases d next (AreFar low) (λ l near. (least, omega (arith, some), tt))
    (λ f. (least, some, (f below.0, order, tt)))
far_with_near low (d ∷ e ∷ ds) next far from order below =
    let second : d.last + 512 ≤ e.first = far.2.0 in
    let up = below.1.0 in
    (far.0, far.1, far_with_near (d.last + 512) (e ∷ ds) next far.2 (omega (arith, second, up)) order below.1)

-- They begin one at or above another, from an offset on.
abbrev Rise : ℕ → List Difference → Type 0
Rise low [] = Unit {0}
Rise low (d ∷ ds) = (low ≤ d.first) × Rise d.first ds

rise_by : (low : ℕ) (ds : List Difference) → IsNonDecreasingBy (λ d. d.first) ds
    → ((d : Difference) → In d ds → low ≤ d.first) → Rise low ds
rise_by low [] up f = tt
rise_by low (d ∷ ds) up f = (
  f d (inl refl),
  rise_by d.first ds (λ i j e l h. up (suc i) (suc j) e (omega arith) (omega arith)) (λ e h.
      let c = Contains-from_In e ds h in
      let within : c.0 < length ds = c.1 in
      let above = up 0 (suc c.0) e (omega arith) (omega arith) in
      let there = ap (λ (t : Difference). t.first) c.2 in
      omega (arith, above, there)),
)

below_more : (a b : ℕ) (ds : List Difference) → a ≤ b → AllByRecursion (λ d. d.first ≤ a) ds
    → AllByRecursion (λ d. d.first ≤ b) ds
below_more a b [] l all = tt
below_more a b (d ∷ ds) l all = let one = all.0 in (omega (arith, l, one), below_more a b ds l all.1)

far_with_all : (low : ℕ) (ds others : List Difference) → AreFar 0 ds → AllByRecursion (λ d. d.first ≤ low) ds
    → Rise low others → AllByRecursion (λ d. d.first ≤ d.last) others → AreFar 0 (with_all ds others)
far_with_all low ds [] far below rise some = far
far_with_all low ds (next ∷ others) far below rise some =
    let under = below_more low next.first ds rise.0 below in
    far_with_all next.first (with_near ds next) others (far_with_near 0 ds next far (omega arith) some.0 under)
    (all_with_near (λ d. d.first ≤ next.first) (λ d e one other from near. one) ds next under (omega arith))
    rise.1 some.1

far_above : (low : ℕ) (ds : List Difference) (x : ℕ) → AreFar low ds → LiesInOne ds x → low ≤ x
far_above low [] x far l = absurd l.1
far_above low (d ∷ ds) x far l =
    let least = far.0 in
    let some = far.1 in
    elim (lies_cases d ds x l) [
      | inl m ↦ let from = m.from in omega (arith, least, from)
      | inr m ↦ let ih = far_above (d.last + 512) ds x far.2 m in omega (arith, least, some, ih)
    ]

-- Two offsets that are near lie in one of them, with all between.
together : (low : ℕ) (ds : List Difference) → AreFar low ds → (from to : ℕ) → LiesInOne ds from → LiesInOne ds to
    → from ≤ to → to < from + 512 → (x : ℕ) → from ≤ x → x ≤ to → LiesInOne ds x
together low [] far from to l m order near x above below = absurd l.1
together low (d ∷ ds) far from to l m order near x above below =
    elim (lies_cases d ds from l) [
      | inl a ↦ elim (lies_cases d ds to m) [
        | inl b ↦ (
            let first = a.from in
            let last = b.to in
            lies_first d ds x (record { from = omega (arith, first, above); to = omega (arith, last, below) }))
        | inr b ↦ (
            let last = a.to in
            let high = far_above (d.last + 512) ds to far.2 b in
            absurd (omega (arith, last, high, near)))
      ]
      | inr a ↦ elim (lies_cases d ds to m) [
        | inl b ↦ (
            let last = b.to in
            let high = far_above (d.last + 512) ds from far.2 a in
            absurd (omega (arith, last, high, order)))
        | inr b ↦ lies_later d ds x (together (d.last + 512) ds far.2 from to a b order near x above below)
      ]
    ]

pub joined_are : (sources : List SourceParts) (noted all : List Difference) → AreJoined noted all
    → AllByRecursion (IsDifferenceOf sources) noted → ((x : ℕ) → Differ sources x → LiesInOne noted x)
    → (x : ℕ) → LiesInOne all x ↔ IsDiffering sources x
joined_are sources noted all j sound found x = (
  λ l. let d = l.0 in (all-In (IsDifferenceOf sources) all d sound_all l.1).around x l.2,
  λ i.
      let above = i.above in
      let below = i.below in
      together 0 all far i.from i.to (found_all i.from i.from_differs) (found_all i.to i.to_differs)
      (omega (arith, above, below)) i.near x above below,
) where
  In-noted : (d : Difference) → In d j.sorted → In d noted
  In-noted d h = In-from_Contains d noted
      (Contains-permutation j.sorted noted d (IsPermutation-sym noted j.sorted j.members)
      (Contains-from_In d j.sorted h))

  In-sorted : (d : Difference) → In d noted → In d j.sorted
  In-sorted d h =
      In-from_Contains d j.sorted (Contains-permutation noted j.sorted d j.members (Contains-from_In d noted h))

  sound_sorted : AllByRecursion (IsDifferenceOf sources) j.sorted
  sound_sorted = all_from_In (IsDifferenceOf sources) j.sorted
      (λ d h. all-In (IsDifferenceOf sources) noted d sound (In-noted d h))

  sound_all : AllByRecursion (IsDifferenceOf sources) all
  sound_all = subst (AllByRecursion (IsDifferenceOf sources)) (sym j.is)
      (all_with_all (IsDifferenceOf sources) (join_of sources) [] j.sorted tt sound_sorted)

  found_all : (y : ℕ) → Differ sources y → LiesInOne all y
  found_all y d =
      let l = found y d in
      subst (λ (ds : List Difference). LiesInOne ds y) (sym j.is)
      (lies_with_all [] j.sorted y (inr (l.0, In-sorted l.0 l.1, l.2)))

  far : AreFar 0 all
  far = subst (AreFar 0) (sym j.is) (far_with_all 0 [] j.sorted tt tt (rise_by 0 j.sorted j.rise (λ d h. omega arith))
      (all_from_In (λ (d : Difference). d.first ≤ d.last) j.sorted
      (λ d h. (all-In (IsDifferenceOf sources) j.sorted d sound_sorted h).order)))

-- ---- the cover of their offsets

pub lies_in_differences : (ds : List Difference) (x : ℕ)
    → LiesIn (union_of_runs [] (map run_of_difference ds)) x ↔ LiesInOne ds x
lies_in_differences ds x =
    let all = union_of_runs-IsUnion [] (map run_of_difference ds) x in (
      λ h. elim (all.0 h) [
        | inl none ↦ absurd none.1
        | inr k ↦ (
            let m = (In-map run_of_difference ds k.0).0 k.1 in
            let from : k.0.start ≤ x = k.2.from in
            let before : x + 1 ≤ k.0.end = k.2.before in
            let start = ap (λ (r : Run). r.start) m.2 in
            let end = ap (λ (r : Run). r.end) m.2 in
            (m.0, m.1, record { from = omega (arith, from, start); to = omega (arith, before, end) }))
      ],
      λ h.
          let from : h.0.first ≤ x = h.2.from in
          let to : x ≤ h.0.last = h.2.to in
          all.1 (inr (
            run_of_difference h.0,
            (In-map run_of_difference ds (run_of_difference h.0)).1 (h.0, h.1, refl),
            record { from = from; before = omega (arith, to) },
          )),
    )

pub differences_cover : (ds : List Difference) → AllByRecursion IsDifference ds
    → IsCover (union_of_runs [] (map run_of_difference ds))
differences_cover ds all = IsCover-all [] (map run_of_difference ds) (record { maximal = tt; within = tt }) (λ r h.
    let m = (In-map run_of_difference ds r).0 h in
    let d = all-In IsDifference ds m.0 all m.1 in
    let order = d.order in
    let within = d.within in
    let start = ap (λ (q : Run). q.start) m.2 in
    let end = ap (λ (q : Run). q.end) m.2 in
    record { order = omega (arith, order, start, end); within = omega (arith, within, end) })

-- ---- steps of what notes them

-- Whether or not there was memory, each is a difference.
pub differences_anyway : (r : Result (Unit {0}) OutOfMemory) (old new : List Difference) (next : Difference)
    → OnOk r (new ≡ with_near old next) → OnErr r (new ≡ old) → AllByRecursion IsDifference old → IsDifference next
    → AllByRecursion IsDifference new
differences_anyway (Ok x) old new next added err all one =
    subst (AllByRecursion IsDifference) (sym added) (differences_with_near old next all one)
differences_anyway (Err e) old new next added err all one = subst (AllByRecursion IsDifference) (sym err) all

pub all_permuted : (P : Difference → Type 0) (xs ys : List Difference) → IsPermutation xs ys → AllByRecursion P xs
    → AllByRecursion P ys
all_permuted P xs ys perm all = all_from_In P ys (λ d h.
    all-In P xs d all (In-from_Contains d xs (Contains-permutation ys xs d (IsPermutation-sym xs ys perm)
    (Contains-from_In d ys h))))

-- Where either list has ended, nothing more is noted.
pub bytes_ended : (ds : List Difference) (at n : ℕ) (bytes others : List ℕ) → n ≡ min (length bytes) (length others)
    → with_bytes ds at (drop n bytes) (drop n others) ≡ ds
bytes_ended ds at n bytes others e =
    elim (cases_lt n (length bytes)) [
      | inl below ↦ at_drop_all (λ (l : List ℕ). with_bytes ds at (drop n bytes) l) others n (omega (arith, below, e))
          ∙ no_others (drop n bytes)
      | inr ended ↦ at_drop_all (λ (l : List ℕ). with_bytes ds at l (drop n others)) bytes n ended
    ]
  where
    no_others : (xs : List ℕ) → with_bytes ds at xs [] ≡ ds
    no_others [] = refl
    no_others (x ∷ xs) = refl

-- Of bytes beside themselves nothing is noted.
pub bytes_alike : (ds : List Difference) (at : ℕ) (bytes : List ℕ) → with_bytes ds at bytes bytes ≡ ds
bytes_alike ds at [] = refl
bytes_alike ds at (a ∷ bytes) =
    ap (λ c. with_bytes (if c then ds else with_near ds (difference at at)) (at + 1) bytes bytes) (eq-eqb a a refl)
    ∙ bytes_alike ds (at + 1) bytes
