-- Segments beside which others say nothing new.
use Rattle.mxf_views.proofs.Common.{◌≡◌, ◌∙◌, ◌⊎◌, ◌*◌, ◌-◌, ◌++◌, ℕ, Bool, true}
use Rattle.mxf_views.proofs.Common.{false, List, [], ◌∷◌, Option, None, Some, refl, sym, ap, subst, inl, inr, arith}
use Rattle.mxf_views.proofs.Common.{and_parts, filter_map, if◌then◌else◌, length}
use Rattle.mxf_views.proofs.Common.{ltb-true, nat_lt, option_map, unsigned_abs, IsPermutation, In}
use Rattle.mxf_views.proofs.Common.{In-append, In-filter_map, SameMembers, covers_entry, entry_offset}
use Rattle.mxf_views.proofs.Common.{index_entry, stream_offset, entry_count, is_constant, SegmentAtParts}
use Rattle.mxf_views.proofs.Common.{◌/◌, in_stream, place_in, list_any, list_any-In, same_bool}
use Rattle.std.proofs.Math.Nat.{zero-div}
use Rattle.mxf_sets.specs.Offset.{entry_at}
use Rattle.mxf_sets.specs.Segment.{entry_size}
use Rattle.mxf_views.specs.declared.index.place.StreamPlace.{StreamPlace}
use Rattle.mxf_units.specs.EvenUnits.{has_entries}
use Rattle.mxf_units.specs.NextPlaces.{AreNextPlaces, NextPlacesParts, constant_units}
use Rattle.mxf_units.specs.Repeated.{AreAmong, SayAll, SaysAllOf, has_unit}
use Rattle.mxf_units.specs.Streams.{IsNextOf, IsStreamPlace, next_of}
use Rattle.mxf_units.specs.declared.constant_units.ConstantUnits.{ConstantUnits}
use Rattle.mxf_units.proofs.NextLaws.{next-is, next-told}
use Rattle.mxf_units.proofs.NextPlaceLaws.{permuted}

-- ---- what a segment of units of one size gives

module _ (s : SegmentAtParts) where
  abbrev own : ConstantUnits
  own = record {
    body_sid = s.segment.numbers.body_sid;
    unit_bytes = s.segment.numbers.unit_bytes;
    start = unsigned_abs s.segment.numbers.start;
    duration = unsigned_abs s.segment.numbers.duration;
  }

  pub sized_own : (c : ConstantUnits) → constant_units s ≡ Some c → (is_constant s.segment.numbers ≡ true) × (own ≡ c)
  sized_own c e = by (is_constant s.segment.numbers) e
    where
      by : (b : Bool) → (if b then Some own else None) ≡ Some c → (b ≡ true) × (own ≡ c)
      by true f = (refl, cc)
      by false f = absurd cc

  abbrev by_units : ConstantUnits → ℕ → Option ℕ
  by_units c unit = if has_unit c unit then Some (c.unit_bytes * unit) else None

  sized_offset : (c : ConstantUnits) (unit : ℕ) → constant_units s ≡ Some c
      → stream_offset s.segment unit ≡ by_units c unit
  sized_offset c unit e =
      let is = sized_own c e in
      let by_entry = if covers_entry s.segment unit
      then Some (entry_offset s.segment (unit - unsigned_abs s.segment.numbers.start)) else None in
      ap (λ b. if b then by_units own unit else by_entry) is.0 ∙ ap (λ d. by_units d unit) is.1

  -- What has no entries lists no unit.
  pub no_entry : (unit : ℕ) → s.segment.entries ≡ [] → index_entry s.segment unit ≡ None
  no_entry unit none =
      let count : entry_count s.segment ≡ 0 =
      ap (λ (l : List ℕ). length l / entry_size s.segment.numbers) none ∙ zero-div (entry_size s.segment.numbers) in
      by_size (is_constant s.segment.numbers) count
    where
      start : ℕ
      start = unsigned_abs s.segment.numbers.start

      by_size : (b : Bool) → entry_count s.segment ≡ 0
          → (if b then None else (if covers_entry s.segment unit then Some (entry_at s.segment (unit - unsigned_abs s.segment.numbers.start)) else None)) ≡ None
      by_size true count = refl
      by_size false count = grind (arith, and_parts, ltb-true, nat_lt)

pub says-all : (t s : SegmentAtParts) (c d : ConstantUnits) → constant_units t ≡ Some c → constant_units s ≡ Some d
    → AreAmong d c → s.segment.entries ≡ [] → SaysAllOf t s
says-all t s c d of_t of_s among none =
    let a = (sized_own t c of_t).1 in
    let b = (sized_own s d of_s).1 in
    record {
      body_sid = ap (λ (u : ConstantUnits). u.body_sid) a ∙ sym among.body_sid
          ∙ sym (ap (λ (u : ConstantUnits). u.body_sid) b);
      unit_bytes = ap (λ (u : ConstantUnits). u.unit_bytes) a ∙ sym among.unit_bytes
          ∙ sym (ap (λ (u : ConstantUnits). u.unit_bytes) b);
      given = λ unit offset e.
          let g = guarded (has_unit d unit) (d.unit_bytes * unit) offset (sym (sized_offset s d unit of_s) ∙ e) in
          sized_offset t c unit of_t
          ∙ ap (λ b. if b then Some (c.unit_bytes * unit) else None) (among.each unit g.0)
          ∙ ap (λ n. Some (n * unit)) (sym among.unit_bytes) ∙ ap (λ (n : ℕ). Some n) g.1;
      unlisted = none;
    }
  where
    guarded : (b : Bool) (x y : ℕ) → (if b then Some x else None) ≡ Some y → (b ≡ true) × (x ≡ y)
    guarded true x y e = (refl, cc)
    guarded false x y e = absurd cc

-- ---- one segment more

-- So far, with those to come.
pub record SayAllSoFar (segments left coming : List SegmentAtParts) : Type 0 where
  pub among : (s : SegmentAtParts) → In s left → In s segments
  pub later : (s : SegmentAtParts) → In s coming → In s segments
  pub each : (s : SegmentAtParts) → In s segments
      → In s coming ⊎ (In s left ⊎ ((t : SegmentAtParts) × In t left × SaysAllOf t s))

pub none_so_far : (segments left coming : List SegmentAtParts) → left ≡ [] → coming ≡ segments
    → SayAllSoFar segments left coming
none_so_far segments left coming none is = record {
  among = λ s h. absurd (subst (In s) none h);
  later = λ s h. subst (In s) is h;
  each = λ s h. inl (subst (In s) (sym is) h);
}

pub all_so_far : (segments left coming : List SegmentAtParts) → length coming ≡ 0 → SayAllSoFar segments left coming
    → SayAll segments left
all_so_far segments left [] none so = record {
  among = so.among;
  each = λ s h. elim (so.each s h) [ inl k ↦ absurd k | inr k ↦ k ];
}
all_so_far segments left (x ∷ coming) none so = absurd (omega (arith, none))

one_later : (segments old new : List SegmentAtParts) (s : SegmentAtParts) (coming : List SegmentAtParts)
    → (new ≡ old ++ s ∷ []) ⊎ ((new ≡ old) × ((t : SegmentAtParts) × In t old × SaysAllOf t s))
    → SayAllSoFar segments old (s ∷ coming) → SayAllSoFar segments new coming
one_later segments old new s coming (inl e) so = subst (λ l. SayAllSoFar segments l coming) (sym e) (record {
  among = λ q h. elim ((In-append q old (s ∷ [])).0 h) [
    | inl k ↦ so.among q k
    | inr k ↦ elim k [ inl f ↦ so.later q (inl f) | inr n ↦ absurd n ]
  ];
  later = λ q h. so.later q (inr h);
  each = λ q h. elim (so.each q h) [
    | inl k ↦ elim k [ inl f ↦ inr (inl ((In-append q old (s ∷ [])).1 (inr (inl f)))) | inr l ↦ inl l ]
    | inr k ↦ inr (elim k [
      | inl l ↦ inl ((In-append q old (s ∷ [])).1 (inl l))
      | inr t ↦ inr (t.0, (In-append t.0 old (s ∷ [])).1 (inl t.1), t.2)
    ])
  ];
})
one_later segments old new s coming (inr said) so = subst (λ l. SayAllSoFar segments l coming) (sym said.0) (record {
  among = so.among;
  later = λ q h. so.later q (inr h);
  each = λ q h. elim (so.each q h) [
    | inl k ↦ elim k [
      | inl f ↦ inr (inr (said.1.0, said.1.1, subst (λ (x : SegmentAtParts). SaysAllOf said.1.0 x) (sym f) said.1.2))
      | inr l ↦ inl l
    ]
    | inr k ↦ inr k
  ];
})

pub one_more : (segments old new now coming : List SegmentAtParts) (s : SegmentAtParts) → now ≡ s ∷ coming
    → (new ≡ old ++ s ∷ []) ⊎ ((new ≡ old) × ((t : SegmentAtParts) × In t old × SaysAllOf t s))
    → SayAllSoFar segments old now → SayAllSoFar segments new coming
one_more segments old new now coming s is added so =
    one_later segments old new s coming added (subst (SayAllSoFar segments old) is so)

-- ---- another order

pub ordered_before : (segments sorted left : List SegmentAtParts) → IsPermutation segments sorted → SayAll sorted left
    → SayAll segments left
ordered_before segments sorted left p say = record {
  among = λ s h. (permuted segments sorted p s).0 (say.among s h);
  each = λ s h. say.each s ((permuted segments sorted p s).1 h);
}

pub ordered_after : (segments left all : List SegmentAtParts) → SayAll segments left → IsPermutation left all
    → SayAll segments all
ordered_after segments left all say p = record {
  among = λ s h. say.among s ((permuted left all p s).0 h);
  each = λ s h. elim (say.each s h) [
    | inl k ↦ inl ((permuted left all p s).1 k)
    | inr k ↦ inr (k.0, (permuted left all p k.0).1 k.1, k.2)
  ];
}

-- ---- what they say

module _ (segments left : List SegmentAtParts) (say : SayAll segments left) where
  pub said-places : (unit : ℕ) → SameMembers (filter_map (place_in unit) left) (filter_map (place_in unit) segments)
  said-places unit p =
      let a = In-filter_map (place_in unit) left p in
      let b = In-filter_map (place_in unit) segments p in (
        λ h. let s = a.0 h in b.1 (s.0, say.among s.0 s.1, s.2),
        λ h. let s = b.0 h in elim (say.each s.0 s.1) [
          | inl k ↦ a.1 (s.0, k, s.2)
          | inr t ↦ a.1 (t.0, t.1, by t.0 s.0 t.2 (stream_offset s.0.segment unit) refl s.2)
        ],
      )
    where
      by : (t s : SegmentAtParts) → SaysAllOf t s → (o : Option ℕ) → stream_offset s.segment unit ≡ o
          → option_map (in_stream s) o ≡ Some p → place_in unit t ≡ Some p
      by t s says None is e = absurd cc
      by t s says (Some x) is e =
          let same : in_stream s x ≡ p = cc (e) in
          ap (option_map (in_stream t)) (says.given unit x is)
          ∙ ap (λ (b : ℕ). Some record { body_sid = b; offset = x }) says.body_sid
          ∙ ap (λ (q : StreamPlace). Some q) same

  pub said-entries : (unit : ℕ) → SameMembers (filter_map (λ s. index_entry s.segment unit) left)
      (filter_map (λ s. index_entry s.segment unit) segments)
  said-entries unit e =
      let f = λ (s : SegmentAtParts). index_entry s.segment unit in
      let a = In-filter_map f left e in
      let b = In-filter_map f segments e in (
        λ h. let s = a.0 h in b.1 (s.0, say.among s.0 s.1, s.2),
        λ h. let s = b.0 h in elim (say.each s.0 s.1) [
          | inl k ↦ a.1 (s.0, k, s.2)
          | inr t ↦ let none = no_entry s.0 unit t.2.unlisted in let some = s.2 in absurd (cc (none, some))
        ],
      )

  to_left : (body_sid offset : ℕ) → IsStreamPlace segments body_sid offset → IsStreamPlace left body_sid offset
  to_left body_sid offset p = elim (say.each p.by p.held) [
    | inl k ↦ record { by = p.by; held = k; body = p.body; unit = p.unit; given = p.given }
    | inr t ↦ record {
      by = t.0;
      held = t.1;
      body = t.2.body_sid ∙ p.body;
      unit = p.unit;
      given = t.2.given p.unit offset p.given;
    }
  ]

  from_left : (body_sid offset : ℕ) → IsStreamPlace left body_sid offset → IsStreamPlace segments body_sid offset
  from_left body_sid offset p =
      record { by = p.by; held = say.among p.by p.held; body = p.body; unit = p.unit; given = p.given }

  next_left : (body_sid offset : ℕ) → next_of left body_sid offset ≡ next_of segments body_sid offset
  next_left body_sid offset = sym ((next-is segments body_sid offset (next_of left body_sid offset)).1
      (by (next_of left body_sid offset) (next-told left body_sid offset)))
    where
      by : (r : Option ℕ) → IsNextOf left body_sid offset r → IsNextOf segments body_sid offset r
      by None is = λ x p. is x (to_left body_sid x p)
      by (Some next) is = record {
        given = from_left body_sid next is.given;
        above = is.above;
        least = λ other p above. is.least other (to_left body_sid other p) above;
      }

  pub said-next : (n : NextPlacesParts) → AreNextPlaces left n → AreNextPlaces segments n
  said-next n are body_sid offset = are body_sid offset ∙ next_left body_sid offset

  -- One lists units where one of all does.
  pub said-lists : list_any has_entries left ≡ list_any has_entries segments
  said-lists =
      let here = list_any-In has_entries left in
      let there = list_any-In has_entries segments in
      same_bool (list_any has_entries left) (list_any has_entries segments)
      (λ t. let s = here.0 t in there.1 (s.0, say.among s.0 s.1, s.2))
      (λ t. let s = there.0 t in here.1 (elim (say.each s.0 s.1) [
        | inl k ↦ (s.0, k, s.2)
        | inr q ↦ absurd (no_entries s.0 q.2.unlisted s.2)
      ]))
    where
      no_entries : (s : SegmentAtParts) → s.segment.entries ≡ [] → has_entries s ≡ true → ⊥
      no_entries s none e =
          let count : entry_count s.segment ≡ 0 =
          ap (λ (l : List ℕ). length l / entry_size s.segment.numbers) none ∙ zero-div (entry_size s.segment.numbers) in
          let some = ltb-true 0 (entry_count s.segment) e in omega (arith, count, some)
