-- The greatest offsets of streams that segments give: of one segment, and of those that a loop has passed.
use Rattle.mxf_views.proofs.Common.{◌≡◌, ◌∙◌, ◌≢◌, ◌<◌, ◌≤◌, ◌+◌, ◌-◌, ◌*◌, ◌==◌, ◌⊎◌, ℕ, Bool, true, false, List, []}
use Rattle.mxf_views.proofs.Common.{◌∷◌, Option, None, Some, MatchOption, pos, refl, sym, ap, subst, inl, inr, arith}
use Rattle.mxf_views.proofs.Common.{eq-eqb, eqb-true, if◌then◌else◌, negsuc, suc, zero, ℤ, max, unsigned_abs, lt-ltb}
use Rattle.mxf_views.proofs.Common.{cases_lt, IsTotalOrder, IsAntisymmetric, nat_cmp-IsAntisymmetric, nat_cmp, on}
use Rattle.mxf_views.proofs.Common.{then_cmp, Ordering, nat_cmp_total, on_total, then_total, In, In-union, IsRising}
use Rattle.mxf_views.proofs.Common.{union, In-end, In-filter, lt_from_less, ties}
use Rattle.mxf_views.proofs.Common.{stream_offset, SegmentParts, entry_count, is_constant, SegmentAtParts}
use Rattle.mxf_views.proofs.Common.{segments_of}
use Rattle.std.proofs.Common.{mul-le-mul_left}
use Rattle.mxf_units.specs.LastUnits.{IsEndless}
use Rattle.mxf_units.specs.Streams.{segments_for}
use Rattle.mxf_units.specs.Units.{UnitsParts}
use Rattle.mxf_units.proofs.LastLaws.{units-constant, units-listed}
use Rattle.mxf_partial.specs.Greatest.{AreGreatest, GivesNone, HasAdded, IsGreatestOf, greater}
use Rattle.mxf_partial.specs.Streams.{IsEndingPlace}
use Rattle.mxf_partial.specs.declared.greatest.GreatestPlace.{GreatestPlace}
use Rattle.mxf_partial.proofs.InStreamLaws.{in_order_from, then_less}

-- ---- the greater of two

greater_from : (a b : Option ℕ) (g : ℕ) → greater a b ≡ Some g → (a ≡ Some g) ⊎ (b ≡ Some g)
greater_from None b g e = inr e
greater_from (Some x) None g e = inl e
greater_from (Some x) (Some y) g e = grind (arith, cases_lt)

-- A number of two is reached by the greater one.
abbrev pub Reaches : Option ℕ → ℕ → Type 0
Reaches o x = (g : ℕ) × (o ≡ Some g) × (x ≤ g)

greater_left : (a b : Option ℕ) (x : ℕ) → Reaches a x → Reaches (greater a b) x
greater_left None b x r = let e = r.1 in absurd cc
greater_left (Some y) None x r = r
greater_left (Some y) (Some z) x r =
    let e : y ≡ r.0 = cc (r.1) in let l : x ≤ r.0 = r.2 in (max y z, refl, omega (arith, e, l))

greater_right : (a b : Option ℕ) (x : ℕ) → b ≡ Some x → Reaches (greater a b) x
greater_right None b x e = (x, e, omega arith)
greater_right (Some y) None x e = absurd cc
greater_right (Some y) (Some z) x e = let f : z ≡ x = cc (e) in (max y z, refl, omega (arith, f))

-- ---- the units that a segment lists

-- The greatest offset that a segment gives the units below one.
pub record Reached (s : SegmentParts) (to : ℕ) (greatest : Option ℕ) : Type 0 where
  pub given : (g : ℕ) → greatest ≡ Some g → (unit : ℕ) × (stream_offset s unit ≡ Some g)
  pub others : (unit offset : ℕ) → unit < to → stream_offset s unit ≡ Some offset → Reaches greatest offset

module _ (s : SegmentParts) (listed : s.numbers.unit_bytes ≡ 0) where
  listed_unit : (unit offset : ℕ) → stream_offset s unit ≡ Some offset
      → (unsigned_abs s.numbers.start ≤ unit) × (unit < unsigned_abs s.numbers.start + entry_count s)
  listed_unit unit offset e =
      let h = (units-listed s (omega (arith, listed)) unit).0 (record { offset = offset; given = e }) in
      let a = h.0 in let b = h.1 in (a, omega (arith, a, b))

  pub reached_none : (start : ℕ) → start ≡ unsigned_abs s.numbers.start → Reached s start None
  reached_none start same =
      record {
        given = λ g e. absurd cc;
        others = λ unit offset l e. let h = listed_unit unit offset e in let a = h.0 in absurd (omega (
          arith,
          a,
          l,
          same,
        ));
      }

  pub reached_all : (end : ℕ) (greatest : Option ℕ) → end ≡ unsigned_abs s.numbers.start + entry_count s
      → Reached s end greatest → MatchOption greatest (GivesNone s) (IsGreatestOf s)
  reached_all end None same r = λ unit offset e.
      let h = listed_unit unit offset e in
      let b = h.1 in let f = (r.others unit offset (omega (arith, b, same)) e).1 in absurd cc
  reached_all end (Some g) same r =
      let p = r.given g refl in
      record {
        unit = p.0;
        given = p.1;
        others = λ unit offset e.
            let h = listed_unit unit offset e in
            let b = h.1 in
            let t = r.others unit offset (omega (arith, b, same)) e in
            let f : g ≡ t.0 = cc (t.1) in let l : offset ≤ t.0 = t.2 in omega (arith, f, l);
      }

pub reached_more : (s : SegmentParts) (unit : ℕ) (greatest here more : Option ℕ) → here ≡ stream_offset s unit
    → more ≡ greater greatest here → Reached s unit greatest → Reached s (unit + 1) more
reached_more s unit greatest here more at is r =
    subst (Reached s (unit + 1)) (sym is) record {
      given = λ g e. elim (greater_from greatest here g e) [ inl f ↦ r.given g f | inr f ↦ (unit, sym at ∙ f) ];
      others = λ other offset l e. elim (cases_lt other unit) [
        | inl m ↦ greater_left greatest here offset (r.others other offset m e)
        | inr m ↦
            let same : other ≡ unit = omega (arith, l, m) in
            greater_right greatest here offset (at ∙ ap (stream_offset s) (sym same) ∙ e)
      ];
    }

-- ---- the last unit of a segment of units of one size

when_some : (b : Bool) (x y : ℕ) → (if b then Some x else None) ≡ Some y → y ≡ x
when_some true x y e = cc
when_some false x y e = absurd cc

sized_is : (s : SegmentParts) → is_constant s.numbers ≡ true → (unit offset : ℕ) → stream_offset s unit ≡ Some offset
    → offset ≡ s.numbers.unit_bytes * unit
sized_is s constant unit offset e = grind (arith, unsigned_abs, when_some)

times_up : (k a b : ℕ) → a ≤ b → k * a ≤ k * b
times_up k a b l = mul-le-mul_left k l

pub sized_last : (s : SegmentParts) (last : ℕ) (result : Option ℕ) → ¬ IsEndless s → 0 < s.numbers.unit_bytes
    → 0 < unsigned_abs s.numbers.duration
    → last ≡ unsigned_abs s.numbers.start + (unsigned_abs s.numbers.duration - 1) → result ≡ stream_offset s last
    → MatchOption result (¬ IsEndless s → GivesNone s) (λ g. (¬ IsEndless s) × IsGreatestOf s g)
sized_last s last result ends some long same is =
    let are = units-constant s ends some in
    let constant : is_constant s.numbers ≡ true = lt-ltb _ _ some in
    let p = (are last).1 (omega (arith, same), omega (arith, same, long)) in
    subst (λ o. MatchOption o (¬ IsEndless s → GivesNone s) (λ g. (¬ IsEndless s) × IsGreatestOf s g))
    (sym (is ∙ p.given)) (
      ends,
      record {
        unit = last;
        given = p.given;
        others = λ unit offset e.
            let h = (are unit).0 (record { offset = offset; given = e }) in
            let b = h.1 in
            let up = times_up s.numbers.unit_bytes unit last (omega (arith, b, same, long)) in
            let m = sized_is s constant unit offset e in
            let n = sized_is s constant last p.offset p.given in omega (arith, up, m, n);
      },
    )

-- A duration that isn't 0 has an absolute value above 0.
pub not_zero : (z : ℤ) → (z ≢ pos 0) → 0 < unsigned_abs z
not_zero (pos zero) other = absurd (other refl)
not_zero (pos (suc n)) other = omega arith
not_zero (negsuc n) other = omega arith

-- ---- several segments

-- Each offset that the segment gives is reached by one of the places, where it ends.
abbrev pub IsReached : List GreatestPlace → SegmentAtParts → Type 0
IsReached places s = (unit offset : ℕ) → ¬ IsEndless s.segment → stream_offset s.segment unit ≡ Some offset
    → (g : GreatestPlace) × In g places × (g.body_sid ≡ s.segment.numbers.body_sid) × (offset ≤ g.offset)

-- The segments of an index have been passed, all but these.
pub record Passed (u : UnitsParts) (places : List GreatestPlace) (rest : List SegmentAtParts) : Type 0 where
  pub known : (s : SegmentAtParts) → In s rest → In s (segments_of u.known.notes)
  pub given : (g : GreatestPlace) → In g places → IsEndingPlace u g.body_sid g.offset
  pub reached : (s : SegmentAtParts) → In s (segments_for u.known.notes u.index_sid) → In s rest ⊎ IsReached places s

of_index : (u : UnitsParts) (s : SegmentAtParts)
    → (In s (segments_for u.known.notes u.index_sid) → s.segment.numbers.index_sid ≡ u.index_sid)
of_index u s h = eqb-true _ _ ((In-filter (λ (t : SegmentAtParts). t.segment.numbers.index_sid == u.index_sid)
    (segments_of u.known.notes) s).0 h).1

to_index : (u : UnitsParts) (s : SegmentAtParts) → In s (segments_of u.known.notes)
    → s.segment.numbers.index_sid ≡ u.index_sid → In s (segments_for u.known.notes u.index_sid)
to_index u s h e =
    (In-filter (λ (t : SegmentAtParts). t.segment.numbers.index_sid == u.index_sid) (segments_of u.known.notes) s).1
    (h, eq-eqb _ _ e)

pub passed_none : (u : UnitsParts) (all : List SegmentAtParts) → all ≡ segments_of u.known.notes → Passed u [] all
passed_none u all same =
    record {
      known = λ s h. subst (λ (l : List SegmentAtParts). In s l) same h;
      given = λ g h. absurd h;
      reached = λ s h. inl (subst (λ (l : List SegmentAtParts). In s l) (sym same)
          ((In-filter (λ (t : SegmentAtParts). t.segment.numbers.index_sid == u.index_sid)
          (segments_of u.known.notes) s).0 h).0);
    }

module _ (u : UnitsParts) (places : List GreatestPlace) (before rest : List SegmentAtParts) (s : SegmentAtParts)
    (next : before ≡ s ∷ rest) (was : Passed u places before) where
  known_more : (t : SegmentAtParts) → In t rest → In t (segments_of u.known.notes)
  known_more t h = was.known t (subst (λ (l : List SegmentAtParts). In t l) (sym next) (inr h))

  known_now : In s (segments_of u.known.notes)
  known_now = was.known s (subst (λ (l : List SegmentAtParts). In s l) (sym next) (inl refl))

  reached_more_of : (more : List GreatestPlace) → (In s (segments_for u.known.notes u.index_sid) → IsReached more s)
      → ((g : GreatestPlace) → In g places → In g more) → (t : SegmentAtParts)
      → In t (segments_for u.known.notes u.index_sid) → In t rest ⊎ IsReached more t
  reached_more_of more here kept t h =
      elim (was.reached t h) [
        | inl k ↦ elim (subst (λ (l : List SegmentAtParts). In t l) next k) [
          | inl e ↦ inr (subst (λ (x : SegmentAtParts). IsReached more x) (sym e)
              (here (subst (λ (x : SegmentAtParts). In x (segments_for u.known.notes u.index_sid)) e h)))
          | inr k2 ↦ inl k2
        ]
        | inr r ↦ inr (λ unit offset ends e. let p = r unit offset ends e in (p.0, kept p.0 p.1, p.2, p.3))
      ]

  pub passed_other : s.segment.numbers.index_sid ≢ u.index_sid → Passed u places rest
  passed_other other =
      record {
        known = known_more;
        given = was.given;
        reached = reached_more_of places (λ h. absurd (other (of_index u s h))) (λ g h. h);
      }

  pub passed_more : (more : List GreatestPlace) → s.segment.numbers.index_sid ≡ u.index_sid → HasAdded s places more
      → Passed u more rest
  passed_more more same (inl p) =
      subst (λ (l : List GreatestPlace). Passed u l rest) (sym p.0) record {
        known = known_more;
        given = was.given;
        reached = reached_more_of places (λ h unit offset ends e. absurd (p.1 ends unit offset e)) (λ g h. h);
      }
  passed_more more same (inr p) =
      let new : GreatestPlace = record { body_sid = s.segment.numbers.body_sid; offset = p.0 } in
      record {
        known = known_more;
        given = λ g h. elim ((In-end g new places more p.1).0 h) [
          | inl k ↦ was.given g k
          | inr e ↦ subst (λ (x : GreatestPlace). IsEndingPlace u x.body_sid x.offset) (sym e) record {
            by = s;
            held = to_index u s known_now same;
            body = refl;
            ends = p.2;
            unit = p.3.unit;
            given = p.3.given;
          }
        ];
        reached = reached_more_of more (λ h unit offset ends e. (
          new,
          (In-end new new places more p.1).1 (inr refl),
          refl,
          p.3.others unit offset e,
        )) (λ g h. (In-end g new places more p.1).1 (inl h));
      }

-- ---- in their order

abbrev pub greatest_cmp : GreatestPlace → GreatestPlace → Ordering
greatest_cmp = then_cmp (on (λ g. g.body_sid) nat_cmp) (on (λ g. g.offset) nat_cmp)

greatest_total : IsTotalOrder greatest_cmp
greatest_total = then_total (on_total (λ g. g.body_sid) nat_cmp_total) (on_total (λ g. g.offset) nat_cmp_total)

one_greatest : IsAntisymmetric greatest_cmp
one_greatest a b e = grind (arith, ties)

pub all_greatest : (u : UnitsParts) (places sorted : List GreatestPlace) (rest : List SegmentAtParts) → rest ≡ []
    → Passed u places rest → sorted ≡ union greatest_cmp [] places → IsRising greatest_cmp sorted → AreGreatest u sorted
all_greatest u places sorted rest none p is rises =
    let members = λ (g : GreatestPlace). In-union greatest_total one_greatest g [] places in
    record {
      order = in_order_from (λ g. g.body_sid) (λ g. 0) (λ g. g.offset) greatest_cmp
          (λ x y e. elim (then_less _ _ e) [
            | inl l ↦ inl (lt_from_less _ _ l)
            | inr q ↦ inr (
              nat_cmp-IsAntisymmetric x.body_sid y.body_sid q.0,
              inr (refl, let l = lt_from_less x.offset y.offset q.1 in omega (arith, l)),
            )
          ]) sorted rises;
      given = λ g h. elim ((members g).0 (subst (λ (l : List GreatestPlace). In g l) is h)) [
        | inl k ↦ absurd k
        | inr k ↦ p.given g k
      ];
      reached = λ body_sid offset e.
          elim (p.reached e.by e.held) [
            | inl k ↦ absurd (subst (λ (l : List SegmentAtParts). In e.by l) none k)
            | inr r ↦
                let q = r e.unit offset e.ends e.given in (
                  q.0,
                  subst (λ (l : List GreatestPlace). In q.0 l) (sym is) ((members q.0).1 (inr q.1)),
                  q.2 ∙ e.body,
                  q.3,
                )
          ];
    }
