-- The index that is asked of a stream, and what its segments state.
use Rattle.mxf_views.proofs.Common.{◌≡◌, ◌∙◌, ◌↔◌, ◌<◌, ◌≤◌, ◌+◌, ◌==◌, ◌&&◌, ℕ, Bool, true, false, not, List, [], ◌∷◌}
use Rattle.mxf_views.proofs.Common.{Option, None, Some, refl, sym, ap, subst, inl, inr, arith, eq-eqb, eqb-true, In, In-filter}
use Rattle.mxf_views.proofs.Common.{In-map, In-union, In-flat_map, In-filter_map, and_from, and_parts, false_from_ne_true}
use Rattle.mxf_views.proofs.Common.{none_found, lt-ltb, ltb-true, nat_lt, list_any, list_any-In, map, option_map, same_Some}
use Rattle.mxf_views.proofs.Common.{IsRising, IsRising-union, all-In, Less, nat_cmp, IsTotalOrder, nat_cmp_total}
use Rattle.mxf_views.proofs.Common.{nat_cmp-IsAntisymmetric, on_total, then_total, ties, NoteParts, SegmentAtParts, segments_of}
use Rattle.mxf_views.proofs.Common.{index_entry, is_constant, range_with_len, unsigned_abs, entry_count, covers_entry, nat_le}
use Rattle.mxf_views.proofs.Common.{leb-true, if◌then◌else◌, ordering_then, Ordering, flat_map, ◌-◌, zero, suc, get_or}
use Rattle.mxf_views.proofs.Common.{length, AllWithin, In-at, IfSome, AreApart, end_of}
use Rattle.std.specs.List.Sorted.{IsNonDecreasingBy}
use Rattle.std.specs.FinSet.{IsAntisymmetric}
use Rattle.std.specs.Option.{option_map_or}
use Rattle.mxf_klv.proofs.Counts.{In-range}
use Rattle.mxf_sets.specs.Offset.{entry_at}
use Rattle.mxf_sets.specs.declared.segment.offset.IndexEntry.{IndexEntry}
use Rattle.mxf_doubts.specs.declared.starts.stream_index.StreamIndex.{StreamIndex}
use Rattle.mxf_doubts.specs.DoubtCauses.{AreSizedAlike, IsAskedIndex, IsListed, IsSizedIn}
use Rattle.mxf_doubts.specs.Sizes.{is_other_than}
use Rattle.mxf_doubts.specs.UnitStarts.{first_of, is_asked, is_listed, is_sized, is_uneven, listed_in, listed_unit, listed_units}
use Rattle.mxf_doubts.specs.UnitStarts.{sized_segments, stream_index_cmp, stream_index_in, stream_indexes, unit_cmp}
use Rattle.mxf_doubts.proofs.StrangeLaws.{three}

-- ---- Orders

pub stream_total : IsTotalOrder stream_index_cmp
stream_total =
    then_total (on_total (λ (s : StreamIndex). s.body_sid) nat_cmp_total)
    (then_total (on_total (λ (s : StreamIndex). s.index_sid) nat_cmp_total) (on_total (λ (s : StreamIndex). s.unit_bytes) nat_cmp_total))

pub one_stream : IsAntisymmetric stream_index_cmp
one_stream a b e =
    let p = ties _ _ e in
    let q = ties _ _ p.1 in
    let body = nat_cmp-IsAntisymmetric a.body_sid b.body_sid p.0 in
    let index = nat_cmp-IsAntisymmetric a.index_sid b.index_sid q.0 in
    let bytes = nat_cmp-IsAntisymmetric a.unit_bytes b.unit_bytes q.1 in
    λ i. record { body_sid = body i; index_sid = index i; unit_bytes = bytes i }

pub unit_total : IsTotalOrder unit_cmp
unit_total = then_total (on_total (λ (u : ℕ × ℕ). u.0) nat_cmp_total) (on_total (λ (u : ℕ × ℕ). u.1) nat_cmp_total)

pub one_unit : IsAntisymmetric unit_cmp
one_unit a b e =
    let p = ties _ _ e in
    let index = nat_cmp-IsAntisymmetric a.0 b.0 p.0 in
    let unit = nat_cmp-IsAntisymmetric a.1 b.1 p.1 in
    λ i. (index i, unit i)

less_index : (a b c d e f : ℕ) → ordering_then (nat_cmp a d) (ordering_then (nat_cmp b e) (nat_cmp c f)) ≡ Less → a ≡ d → b ≤ e
less_index a b c d e f h g = grind (arith, nat_cmp)

-- ---- The first of a stream

record IsFirst (body_sid : ℕ) (streams : List StreamIndex) (s : StreamIndex) : Type 0 where
  held : In s streams
  body : s.body_sid ≡ body_sid
  least : (t : StreamIndex) → In t streams → t.body_sid ≡ body_sid → s.index_sid ≤ t.index_sid

first_is : (body_sid : ℕ) (streams : List StreamIndex) → IsRising stream_index_cmp streams → (s : StreamIndex)
    → first_of body_sid streams ≡ Some s → IsFirst body_sid streams s
first_is body_sid [] r s e = absurd (cc (e))
first_is body_sid (x ∷ xs) r s e = elim (x.body_sid == body_sid) as (λ b. x.body_sid == body_sid ≡ b
    → (if b then Some x else first_of body_sid xs) ≡ Some s → IsFirst body_sid (x ∷ xs) s) [
      | true ↦ λ t f.
          let at = eqb-true x.body_sid body_sid t in
          let own = same_Some x s f in
          subst (IsFirst body_sid (x ∷ xs)) own (record {
            held = inl refl;
            body = at;
            least = λ y i b. elim i [
              | inl g ↦ (let u = ap (λ (z : StreamIndex). z.index_sid) g in omega (arith, u))
              | inr j ↦ less_index x.body_sid x.index_sid x.unit_bytes y.body_sid y.index_sid y.unit_bytes
                  (all-In (λ y. stream_index_cmp x y ≡ Less) xs y r.0 j) (at ∙ sym b)
            ];
          })
      | false ↦ λ t f.
          let h = first_is body_sid xs r.1 s f in record {
            held = inr h.held;
            body = h.body;
            least = λ y i b. elim i [
              | inl g ↦ absurd (
                  let u = eq-eqb x.body_sid body_sid (sym (ap (λ (z : StreamIndex). z.body_sid) g) ∙ b) in cc (u, t))
              | inr j ↦ h.least y j b
            ];
          }
    ] refl e

module _ (segments : List SegmentAtParts) (body_sid : ℕ) where
  abbrev streams : List StreamIndex
  streams = stream_indexes segments

  rising : IsRising stream_index_cmp streams
  rising = IsRising-union stream_total one_stream [] (map stream_index_in segments) tt

  In-streams : (x : StreamIndex) → In x streams ↔ ((s : SegmentAtParts) × In s segments × (x ≡ stream_index_in s))
  In-streams x =
      let u = In-union stream_total one_stream x [] (map stream_index_in segments) in
      let m = In-map stream_index_in segments x in
      (λ h. elim (u.0 h) [ inl k ↦ absurd k | inr k ↦ m.0 k ], λ k. u.1 (inr (m.1 k)))

  -- What the first of a stream says.
  pub record IsFirstIn (x : StreamIndex) : Type 0 where
    pub by : SegmentAtParts
    pub held : In by segments
    pub body : by.segment.numbers.body_sid ≡ body_sid
    pub stated : x ≡ stream_index_in by
    pub least : (s : SegmentAtParts) → In s segments → s.segment.numbers.body_sid ≡ body_sid
        → x.index_sid ≤ s.segment.numbers.index_sid

  pub first_says : (x : StreamIndex) → first_of body_sid streams ≡ Some x → IsFirstIn x
  first_says x e =
      let h = first_is body_sid streams rising x e in
      let s = (In-streams x).0 h.held in record {
        by = s.0;
        held = s.1;
        body = sym (ap (λ (y : StreamIndex). y.body_sid) s.2) ∙ h.body;
        stated = s.2;
        least = λ t i b. h.least (stream_index_in t) ((In-streams (stream_index_in t)).1 (t, i, refl)) b;
      }

  pub first_there : (s : SegmentAtParts) → In s segments → s.segment.numbers.body_sid ≡ body_sid
      → (x : StreamIndex) × (first_of body_sid streams ≡ Some x)
  first_there s i b = by (first_of body_sid streams) refl
    where
      by : (o : Option StreamIndex) → first_of body_sid streams ≡ o → (x : StreamIndex) × (first_of body_sid streams ≡ Some x)
      by (Some x) e = (x, e)
      by None e = absurd (none_found (λ (x : StreamIndex). x.body_sid == body_sid) streams (stream_index_in s) e
          ((In-streams (stream_index_in s)).1 (s, i, refl)) (eq-eqb s.segment.numbers.body_sid body_sid b))

-- ---- The index that is asked

module _ (notes : List NoteParts) (index_sid body_sid : ℕ) where
  pub asked : (is_asked notes index_sid body_sid ≡ true) ↔ IsAskedIndex notes body_sid index_sid
  asked = (
    λ t. by (first_of body_sid (stream_indexes (segments_of notes))) refl t,
    λ k.
        let x = first_there (segments_of notes) body_sid k.by k.held k.body in
        let f = first_says (segments_of notes) body_sid x.0 x.1 in
        let l = f.least k.by k.held k.body in
        let m = k.least f.by f.held f.body in
        let at = ap (λ (y : StreamIndex). y.index_sid) f.stated in
        let own = k.index in
        ap (λ o. option_map_or (λ s. s.index_sid == index_sid) o false) x.1
        ∙ eq-eqb x.0.index_sid index_sid (omega (arith, l, m, at, own)),
  )
    where
      by : (o : Option StreamIndex) → first_of body_sid (stream_indexes (segments_of notes)) ≡ o
          → option_map_or (λ s. s.index_sid == index_sid) o false ≡ true → IsAskedIndex notes body_sid index_sid
      by None e t = absurd (cc (t))
      by (Some x) e t =
          let f = first_says (segments_of notes) body_sid x e in
          let at = eqb-true x.index_sid index_sid t in record {
            by = f.by;
            held = f.held;
            body = f.body;
            index = sym (ap (λ (y : StreamIndex). y.index_sid) f.stated) ∙ at;
            least = λ s i b. let l = f.least s i b in omega (arith, l, at);
          }

  -- ---- Sizes

  sized_says : (s : SegmentAtParts) → In s (sized_segments notes) ↔ (In s (segments_of notes) × (0 < s.segment.numbers.unit_bytes))
  sized_says s =
      let f = In-filter is_sized (segments_of notes) s in
      (λ i. let k = f.0 i in (k.0, ltb-true _ _ k.1), λ k. f.1 (k.0, lt-ltb _ _ k.1))

  abbrev first : Option StreamIndex
  first = first_of body_sid (stream_indexes (sized_segments notes))

  -- The first one states the size, if the asked index has units of one size.
  pub record IsOfAsked (x : StreamIndex) : Type 0 where
    pub body : x.body_sid ≡ body_sid
    pub index : x.index_sid ≡ index_sid
    pub by : SegmentAtParts
    pub sized : IsSizedIn notes index_sid body_sid by
    pub bytes : x.unit_bytes ≡ by.segment.numbers.unit_bytes

  pub first_sized : IsAskedIndex notes body_sid index_sid → (s : SegmentAtParts) → IsSizedIn notes index_sid body_sid s
      → (x : StreamIndex) × (first ≡ Some x) × IsOfAsked x
  first_sized k s z =
      let there = (sized_says s).1 (z.held, z.sized) in
      let x = first_there (sized_segments notes) body_sid s there z.body in
      let f = first_says (sized_segments notes) body_sid x.0 x.1 in
      let by = (sized_says f.by).0 f.held in
      let l = f.least s there z.body in
      let m = k.least f.by by.0 f.body in
      let at = ap (λ (y : StreamIndex). y.index_sid) f.stated in
      let own = z.index in
      let index : x.0.index_sid ≡ index_sid = omega (arith, l, m, at, own) in (
        x.0,
        x.1,
        record {
          body = ap (λ (y : StreamIndex). y.body_sid) f.stated ∙ f.body;
          index = index;
          by = f.by;
          sized = record { held = by.0; sized = by.1; index = sym at ∙ index; body = f.body };
          bytes = ap (λ (y : StreamIndex). y.unit_bytes) f.stated;
        },
      )

  other_parts : (a b c d : Bool) → (a && b && c && not d) ≡ true → (a ≡ true) × (b ≡ true) × (c ≡ true) × (d ≡ false)
  other_parts a b c d h = grind arith

  other_from : (a b c d : Bool) → a ≡ true → b ≡ true → c ≡ true → d ≡ false → (a && b && c && not d) ≡ true
  other_from a b c d e f g h = cc

  -- Sizes are one if none is another than the first.
  pub even : IsAskedIndex notes body_sid index_sid → is_uneven notes body_sid ≡ false → AreSizedAlike notes index_sid body_sid
  even k e s t a b =
      let x = first_sized k s a in
      let own = x.2 in
      let none : list_any (is_other_than x.0.index_sid x.0.body_sid x.0.unit_bytes) (segments_of notes) ≡ false =
      sym (ap (λ (o : Option StreamIndex). option_map_or (λ y. list_any (is_other_than y.index_sid y.body_sid y.unit_bytes)
      (segments_of notes)) o false) x.1) ∙ e in
      let same : (u : SegmentAtParts) → IsSizedIn notes index_sid body_sid u → u.segment.numbers.unit_bytes ≡ x.0.unit_bytes =
      λ u z.
      let m = u.segment.numbers in
      elim (m.unit_bytes == x.0.unit_bytes) as (λ c. m.unit_bytes == x.0.unit_bytes ≡ c → m.unit_bytes ≡ x.0.unit_bytes) [
        | true ↦ λ f. eqb-true _ _ f
        | false ↦ λ f. absurd (
            let any = (list_any-In (is_other_than x.0.index_sid x.0.body_sid x.0.unit_bytes) (segments_of notes)).1 (
              u,
              z.held,
              other_from (nat_lt 0 m.unit_bytes) (m.index_sid == x.0.index_sid) (m.body_sid == x.0.body_sid)
                  (m.unit_bytes == x.0.unit_bytes) (lt-ltb _ _ z.sized) (eq-eqb _ _ (z.index ∙ sym own.index))
                  (eq-eqb _ _ (z.body ∙ sym own.body)) f,
            ) in cc (any, none))
      ] refl in
      same s a ∙ sym (same t b)

  pub uneven : IsAskedIndex notes body_sid index_sid → (s : SegmentAtParts) → IsSizedIn notes index_sid body_sid s
      → AreSizedAlike notes index_sid body_sid → is_uneven notes body_sid ≡ false
  uneven k s z alike = false_from_ne_true (is_uneven notes body_sid) (λ t.
      let x = first_sized k s z in
      let own = x.2 in
      let some : list_any (is_other_than x.0.index_sid x.0.body_sid x.0.unit_bytes) (segments_of notes) ≡ true =
      sym (ap (λ (o : Option StreamIndex). option_map_or (λ y. list_any (is_other_than y.index_sid y.body_sid y.unit_bytes)
      (segments_of notes)) o false) x.1) ∙ t in
      let u = (list_any-In (is_other_than x.0.index_sid x.0.body_sid x.0.unit_bytes) (segments_of notes)).0 some in
      let m = u.0.segment.numbers in
      let p = other_parts (nat_lt 0 m.unit_bytes) (m.index_sid == x.0.index_sid) (m.body_sid == x.0.body_sid)
      (m.unit_bytes == x.0.unit_bytes) u.2 in
      let same = alike u.0 own.by (record {
        held = u.1;
        sized = ltb-true _ _ p.0;
        index = eqb-true _ _ p.1 ∙ own.index;
        body = eqb-true _ _ p.2 ∙ own.body;
      }) own.sized in
      let d = eq-eqb m.unit_bytes x.0.unit_bytes (same ∙ sym own.bytes) in
      let f = p.3 in
      cc (d, f))

-- ---- Units that are listed

pub In-listed : (notes : List NoteParts) (u : ℕ × ℕ)
    → In u (flat_map listed_in (segments_of notes)) ↔ IsListed notes u.0 u.1
unfolding listed_in
In-listed notes u =
    let f = In-flat_map listed_in (segments_of notes) u in (
      λ h.
          let s = f.0 h in
          let m = (In-filter_map (listed_unit s.0) (range_with_len (unsigned_abs s.0.segment.numbers.start)
          (entry_count s.0.segment)) u).0 s.2 in
          let e = entry_there s.0 m.0 (index_entry s.0.segment m.0) refl m.2 in record {
            by = s.0;
            held = s.1;
            index = ap (λ (v : ℕ × ℕ). v.0) e.2;
            entry = e.0;
            entry_is = subst (λ unit. index_entry s.0.segment unit ≡ Some e.0) (ap (λ (v : ℕ × ℕ). v.1) e.2) e.1;
          },
      λ k.
          let c = covered k.by u.1 k.entry k.entry_is in
          let index = k.index in
          f.1 (
            k.by,
            k.held,
            (In-filter_map (listed_unit k.by) (range_with_len (unsigned_abs k.by.segment.numbers.start)
                (entry_count k.by.segment)) u).1 (
                  u.1,
                  In-range (unsigned_abs k.by.segment.numbers.start) (entry_count k.by.segment) u.1 c.0 c.1,
                  ap (option_map (λ (entry : IndexEntry). (k.by.segment.numbers.index_sid, u.1))) k.entry_is
                      ∙ (λ i. Some (index i, u.1)),
                ),
          ),
    )
  where
    entry_there : (s : SegmentAtParts) (unit : ℕ) (o : Option IndexEntry) → index_entry s.segment unit ≡ o
        → option_map (λ (entry : IndexEntry). (s.segment.numbers.index_sid, unit)) o ≡ Some u
        → (entry : IndexEntry) × (index_entry s.segment unit ≡ Some entry) × ((s.segment.numbers.index_sid, unit) ≡ u)
    entry_there s unit None e t = absurd (cc (t))
    entry_there s unit (Some entry) e t = (entry, e, same_Some _ u t)

    covered : (s : SegmentAtParts) (unit : ℕ) (entry : IndexEntry) → index_entry s.segment unit ≡ Some entry
        → (unsigned_abs s.segment.numbers.start ≤ unit) × (unit < unsigned_abs s.segment.numbers.start + entry_count s.segment)
    covered s unit entry e = by (is_constant s.segment.numbers) (covers_entry s.segment unit) refl e
      where
        by : (a b : Bool) → covers_entry s.segment unit ≡ b
            → (if a then None else (if b then Some (entry_at s.segment (unit - unsigned_abs s.segment.numbers.start)) else None))
            ≡ Some entry
            → (unsigned_abs s.segment.numbers.start ≤ unit) × (unit < unsigned_abs s.segment.numbers.start + entry_count s.segment)
        by true b f t = absurd (cc (t))
        by false false f t = absurd (cc (t))
        by false true f t =
            let p = three (nat_le (unsigned_abs s.segment.numbers.start) unit)
            (nat_lt unit (unsigned_abs s.segment.numbers.start + unsigned_abs s.segment.numbers.duration))
            (nat_lt (unit - unsigned_abs s.segment.numbers.start) (entry_count s.segment)) f in
            let l = leb-true _ _ p.0 in
            let m = ltb-true _ _ p.2 in
            (l, omega (arith, l, m))

pub listed : (notes : List NoteParts) (index_sid unit : ℕ) → (is_listed notes index_sid unit ≡ true) ↔ IsListed notes index_sid unit
listed notes index_sid unit =
    let any = list_any-In (λ (u : ℕ × ℕ). (u.0 == index_sid) && (u.1 == unit)) (listed_units notes) in
    let member : (u : ℕ × ℕ) → In u (listed_units notes) ↔ IsListed notes u.0 u.1 = λ u.
    let m = In-union unit_total one_unit u [] (flat_map listed_in (segments_of notes)) in
    let l = In-listed notes u in
    (λ h. elim (m.0 h) [ inl k ↦ absurd k | inr k ↦ l.0 k ], λ k. m.1 (inr (l.1 k))) in (
      λ t.
          let s = any.0 t in
          let p = and_parts (s.0.0 == index_sid) (s.0.1 == unit) s.2 in
          let index = eqb-true _ _ p.0 in
          let at = eqb-true _ _ p.1 in
          (λ (r : IsListed notes s.0.0 s.0.1).
          subst (λ i. IsListed notes i unit) index (subst (λ n. IsListed notes s.0.0 n) at r)) ((member s.0).0 s.1),
      λ k. any.1 ((index_sid, unit), (member (index_sid, unit)).1 k, and_from _ _ (eq-eqb index_sid index_sid refl) (eq-eqb unit unit refl)),
    )

-- ---- The first of a stream, by a search

pub never_fall : (streams : List StreamIndex) → IsRising stream_index_cmp streams
    → IsNonDecreasingBy (λ (s : StreamIndex). s.body_sid) streams
never_fall [] r i j d l h = absurd (omega arith)
never_fall (x ∷ xs) r zero zero d l h = omega arith
never_fall (x ∷ xs) r zero (suc j) d l h =
    let y = get_or xs j d in
    less_body x.body_sid y.body_sid _ (all-In (λ y. stream_index_cmp x y ≡ Less) xs y r.0 (In-at xs j d (omega arith)))
  where
    less_body : (a b : ℕ) (o : Ordering) → ordering_then (nat_cmp a b) o ≡ Less → a ≤ b
    less_body a b o e = grind (arith, nat_cmp)
never_fall (x ∷ xs) r (suc i) zero d l h = absurd (omega arith)
never_fall (x ∷ xs) r (suc i) (suc j) d l h = never_fall xs r.1 i j d (omega arith) (omega arith)

pub found_first : (body_sid : ℕ) (xs : List StreamIndex) (k : ℕ) (d : StreamIndex)
    → AllWithin (λ (s : StreamIndex). s.body_sid < body_sid) xs 0 k → k < length xs → (get_or xs k d).body_sid ≡ body_sid
    → first_of body_sid xs ≡ Some (get_or xs k d)
found_first body_sid [] k d below l e = absurd (omega arith)
found_first body_sid (x ∷ xs) zero d below l e =
    ap (λ b. if b then Some x else first_of body_sid xs) (eq-eqb x.body_sid body_sid e)
found_first body_sid (x ∷ xs) (suc k) d below l e =
    let low = below 0 x (omega arith) (omega arith) in
    ap (λ b. if b then Some x else first_of body_sid xs)
    (false_from_ne_true (x.body_sid == body_sid) (λ t. let u = eqb-true x.body_sid body_sid t in omega (arith, u, low)))
    ∙ found_first body_sid xs k d (λ j e a m. below (suc j) e (omega arith) (omega arith)) (omega arith) e

-- The first one of segments with units of one size states a size.
pub some_size : (notes : List NoteParts) (body_sid : ℕ)
    → IfSome (first_of body_sid (stream_indexes (sized_segments notes))) (λ s. 0 < s.unit_bytes)
some_size notes body_sid = by (first_of body_sid (stream_indexes (sized_segments notes))) refl
  where
    by : (o : Option StreamIndex) → first_of body_sid (stream_indexes (sized_segments notes)) ≡ o
        → IfSome o (λ s. 0 < s.unit_bytes)
    by None e = tt
    by (Some x) e =
        let f = first_says (sized_segments notes) body_sid x e in
        let some = ltb-true 0 f.by.segment.numbers.unit_bytes ((In-filter is_sized (segments_of notes) f.by).0 f.held).1 in
        let bytes = ap (λ (y : StreamIndex). y.unit_bytes) f.stated in
        omega (arith, some, bytes)

pub listed_rise : (notes : List NoteParts) → IsRising unit_cmp (listed_units notes)
listed_rise notes = IsRising-union unit_total one_unit [] (flat_map listed_in (segments_of notes)) tt

-- ---- Where packets begin that share no byte

not_before : (low : ℕ) (ns : List NoteParts) (i d : ℕ) → AreApart low ns → i < length (map (λ (n : NoteParts). n.offset) ns)
    → low ≤ get_or (map (λ (n : NoteParts). n.offset) ns) i d
not_before low [] i d a h = absurd (omega arith)
not_before low (n ∷ ns) zero d a h = a.0
not_before low (n ∷ ns) (suc i) d a h =
    let l = not_before (end_of n) ns i d a.1 (omega arith) in
    let m = a.0 in omega (arith, l, m)

pub packets_rise : (low : ℕ) (ns : List NoteParts) → AreApart low ns
    → IsNonDecreasingBy (λ (x : ℕ). x) (map (λ (n : NoteParts). n.offset) ns)
packets_rise low [] a i j d l h = absurd (omega arith)
packets_rise low (n ∷ ns) a zero zero d l h = omega arith
packets_rise low (n ∷ ns) a zero (suc j) d l h = let m = not_before (end_of n) ns j d a.1 (omega arith) in omega (arith, m)
packets_rise low (n ∷ ns) a (suc i) zero d l h = absurd (omega arith)
packets_rise low (n ∷ ns) a (suc i) (suc j) d l h = packets_rise (end_of n) ns a.1 i j d (omega arith) (omega arith)
