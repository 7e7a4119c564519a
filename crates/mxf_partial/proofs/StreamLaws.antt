-- Between which file offsets an offset of a stream lies, by tables that are searched.
use Rattle.mxf_views.proofs.Common.{◌≡◌, ◌∙◌, ◌≤◌, ◌+◌, ◌-◌, ℕ, List, [], ◌∷◌, Option, None, Some, refl, sym, ap, subst}
use Rattle.mxf_views.proofs.Common.{inl, inr, arith, map, max, reverse, cases_lt, IsTotalOrder, IsAntisymmetric}
use Rattle.mxf_views.proofs.Common.{nat_cmp, on, then_cmp, Ordering, Less, nat_cmp_total}
use Rattle.mxf_views.proofs.Common.{on_total, then_total, NoteParts, In, In-union, IsRising, union, In-append, In-map}
use Rattle.mxf_views.proofs.Common.{one_by_key, lt_from_less, ties, IsContent, PartitionParts, partitions_of}
use mathlib.Core.List.{reverse-cons}
use Rattle.mxf_views.proofs.PartitionLaws.{partitions_rise}
use Rattle.mxf_units.specs.EssenceZones.{part_cmp, part_of, parts_of}
use Rattle.mxf_units.proofs.OrderLaws.{one_part, part_total}
use Rattle.mxf_units.specs.Units.{UnitsParts}
use Rattle.mxf_units.specs.declared.essence_zone.part.StreamPart.{StreamPart}
use Rattle.mxf_partial.specs.Greatest.{AreGreatest}
use Rattle.mxf_partial.specs.InStreams.{HasNoneBelow, HasNoneFrom, IsFirstFrom, IsInOrder, IsLastBelow, Precedes}
use Rattle.mxf_partial.specs.StreamTable.{AreStarts, IsRipOffset, PartsDiffer, start_of}
use Rattle.mxf_partial.specs.Streams.{HasNoPartBehind, IsEndingPlace, IsGreatestOffset, IsHigh, IsLow, IsPart, IsPartAt}
use Rattle.mxf_partial.specs.Streams.{IsPartBehind}
use Rattle.mxf_partial.specs.declared.greatest.GreatestPlace.{GreatestPlace}
use Rattle.mxf_partial.specs.declared.streams.PartStart.{PartStart}
use Rattle.mxf_partial.proofs.InStreamLaws.{in_order_from, then_less}

abbrev of : PartStart → ℕ
of s = s.body_sid

abbrev at : PartStart → ℕ
at s = s.body_offset

abbrev tie : PartStart → ℕ
tie s = s.partition

module _ (notes : List NoteParts) (starts : List PartStart) (are : AreStarts notes starts) (b s t : ℕ) (up : t ≡ s
    + 1) where
  start_there : (q : StreamPart) → IsPart notes b q → In (start_of q) starts
  start_there q h = (are.members (start_of q)).1 (q, h.part, refl)

  part_of_start : (start : PartStart) → In start starts → start.body_sid ≡ b
      → (p : StreamPart) × IsPart notes b p × (start ≡ start_of p)
  part_of_start start h same = grind arith

  last_is_part : (p : StreamPart) → IsPart notes b p → IsLastBelow of at tie starts b t (start_of p)
      → IsPartAt notes b s p
  last_is_part p h is =
      let below = is.below in
      record {
        part = h;
        begins = omega (arith, below, up);
        last = λ q k l. is.last (start_of q) (start_there q k) k.body (omega (arith, l, up));
      }

  pub low_found : (start : PartStart) (low : ℕ) → IsLastBelow of at tie starts b t start
      → low ≡ start.origin + (s - start.body_offset) → IsLow notes b s low
  low_found start low is sum = grind (arith, part_of_start, last_is_part)

  pub low_none : (low : ℕ) → HasNoneBelow of at tie starts b t → low ≡ 0 → IsLow notes b s low
  low_none low none zero = inl (λ p h. let l = none (start_of p) (start_there p h) h.body in omega (arith, l, up), zero)

  first_is_part : (p : StreamPart) → IsPart notes b p → IsFirstFrom of at tie starts b t (start_of p)
      → IsPartBehind notes b s p
  first_is_part p h is =
      let above = is.above in
      record {
        part = h;
        behind = omega (arith, above, up);
        first = λ q k l. is.first (start_of q) (start_there q k) k.body (omega (arith, l, up));
      }

  pub part_behind : (start : PartStart) → IsFirstFrom of at tie starts b t start
      → (p : StreamPart) × IsPartBehind notes b s p × (start ≡ start_of p)
  part_behind start is =
      let (p, h, e) = part_of_start start is.among is.same in
      (p, first_is_part p h (subst (λ x. IsFirstFrom of at tie starts b t x) e is), e)

  pub no_part_behind : HasNoneFrom of at tie starts b t → HasNoPartBehind notes b s
  no_part_behind none p h = let l = none (start_of p) (start_there p h) h.body in omega (arith, l, up)

-- ---- the greatest offset

abbrev pub GreatestOf : GreatestPlace → ℕ
GreatestOf g = g.offset

module _ (u : UnitsParts) (places : List GreatestPlace) (are : AreGreatest u places) (b s : ℕ) where
  pub greatest_found : (g : GreatestPlace) (result : ℕ)
      → IsLastBelow (λ g. g.body_sid) (λ g. 0) GreatestOf places b 1 g → result ≡ max g.offset s
      → IsGreatestOffset u b s result
  greatest_found g result is same =
      subst (IsGreatestOffset u b s) (sym same) record {
        some = elim (cases_lt s g.offset) [
          | inl l ↦
              let e : max g.offset s ≡ g.offset = omega (arith, l) in
              inr (subst (IsEndingPlace u b) (sym e)
              (subst (λ (x : ℕ). IsEndingPlace u x g.offset) is.same (are.given g is.among)))
          | inr l ↦ inl (omega (arith, l))
        ];
        above = omega arith;
        greatest_is = λ x e.
            let q = are.reached b x e in
            let goes : q.0.offset ≤ g.offset = elim (is.last q.0 q.1 q.2 (omega arith)) [
              | inl l ↦ absurd (omega (arith, l))
              | inr p ↦ p.1
            ] in
            let l = q.3 in omega (arith, goes, l);
      }

  pub greatest_own : (result : ℕ) → HasNoneBelow (λ g. g.body_sid) (λ g. 0) GreatestOf places b 1 → result ≡ s
      → IsGreatestOffset u b s result
  greatest_own result none same =
      subst (IsGreatestOffset u b s) (sym same) record {
        some = inl refl;
        above = omega arith;
        greatest_is = λ x e.
            let q = are.reached b x e in let l = none q.0 q.1 q.2 in absurd (omega (arith, l));
      }

-- ---- by what calls give

-- What a search says of a list in order, of that list and of a stream by their names.
pub searched : {T : Type 0} (stream offset tie : T → ℕ) (P : List T → ℕ → Type 0) (xs ys : List T) (n m : ℕ)
    → xs ≡ ys → n ≡ m → (IsInOrder stream offset tie xs → P xs n) → IsInOrder stream offset tie ys → P ys m
searched stream offset tie P xs ys n m e f h r =
    subst (P ys) f (subst (λ l. P l n) e (h (subst (IsInOrder stream offset tie) (sym e) r)))

pub high_found : (u : UnitsParts) (b s high : ℕ) (start : PartStart)
    → (p : StreamPart) × IsPartBehind u.known.notes b s p × (start ≡ start_of p)
    → high ≡ start.partition - (start.body_offset - s) → IsHigh u b s (Some high)
high_found u b s high start p same =
    inl (p.0, p.1, same ∙ ap (λ (x : PartStart). x.partition - (x.body_offset - s)) p.2)

pub high_by_rip : (u : UnitsParts) (b s high greatest offset : ℕ) (rip : Option ℕ) → HasNoPartBehind u.known.notes b s
    → IsRipOffset u.known.notes rip → rip ≡ Some offset → IsGreatestOffset u b s greatest
    → high ≡ offset - (greatest - s) → IsHigh u b s (Some high)
high_by_rip u b s high greatest offset rip none is e greatest_is same =
    let r = subst (IsRipOffset u.known.notes) e is in
    inr (none, (r.0, r.1, (greatest, greatest_is, same ∙ ap (λ x. x - (greatest - s)) (sym r.2))))

pub high_none : (u : UnitsParts) (b s : ℕ) (rip high : Option ℕ) → HasNoPartBehind u.known.notes b s
    → IsRipOffset u.known.notes rip → rip ≡ None → high ≡ None → IsHigh u b s high
high_none u b s rip high none is e same = subst (IsHigh u b s) (sym same) (none, subst (IsRipOffset u.known.notes) e is)

-- ---- where parts begin, in their order

abbrev pub start_cmp : PartStart → PartStart → Ordering
start_cmp = then_cmp (on (λ s. s.body_sid) nat_cmp) (then_cmp (on (λ s. s.body_offset) nat_cmp)
    (then_cmp (on (λ s. s.partition) nat_cmp) (on (λ s. s.origin) nat_cmp)))

start_total : IsTotalOrder start_cmp
start_total = then_total (on_total (λ s. s.body_sid) nat_cmp_total)
    (then_total (on_total (λ s. s.body_offset) nat_cmp_total)
    (then_total (on_total (λ s. s.partition) nat_cmp_total) (on_total (λ s. s.origin) nat_cmp_total)))

one_start : IsAntisymmetric start_cmp
one_start a b e = grind (arith, ties)

starts_go : (x y : PartStart) → start_cmp x y ≡ Less → Precedes of at tie x y
starts_go x y e = grind (arith, then_less, lt_from_less)

pub starts_are : (notes : List NoteParts) (starts sorted : List PartStart) → starts ≡ map start_of (parts_of notes)
    → sorted ≡ union start_cmp [] starts → IsRising start_cmp sorted → AreStarts notes sorted
starts_are notes starts sorted each is rises =
    record {
      order = in_order_from of at tie start_cmp starts_go sorted rises;
      members = λ s.
          let m = In-union start_total one_start s [] starts in
          let n = In-map start_of (parts_of notes) s in (
            λ h. elim (m.0 (subst (λ (l : List PartStart). In s l) is h)) [
              | inl k ↦ absurd k
              | inr k ↦ n.0 (subst (λ (l : List PartStart). In s l) each k)
            ],
            λ h. subst (λ (l : List PartStart). In s l) (sym is)
                (m.1 (inr (subst (λ (l : List PartStart). In s l) (sym each) (n.1 h)))),
          );
    }

-- ---- parts at one file offset

In-reverse : {K : Type 0} (x : K) (xs : List K) → In x (reverse xs) → In x xs
In-reverse x [] h = h
In-reverse x (y ∷ ys) h =
    elim ((In-append x (reverse ys) (y ∷ [])).0 (subst (λ l. In x l) (reverse-cons y ys) h)) [
      | inl k ↦ inr (In-reverse x ys k)
      | inr k ↦ elim k [ inl e ↦ inl e | inr n ↦ absurd n ]
    ]

part_there : (notes : List NoteParts) (x : StreamPart) → In x (parts_of notes)
    → (p : PartitionParts) × In p (partitions_of notes) × (x ≡ part_of notes p)
unfolding parts_of
part_there notes x h =
    let all = map (part_of notes) (partitions_of notes) in
    elim ((In-union part_total one_part x [] all).0 (In-reverse x (union part_cmp [] all) h)) [
      | inl k ↦ absurd k
      | inr k ↦ (In-map (part_of notes) (partitions_of notes) x).0 k
    ]

pub parts_differ : (notes : List NoteParts) → IsContent notes → PartsDiffer notes
parts_differ notes content = grind (arith, part_there, one_by_key, partitions_rise)
