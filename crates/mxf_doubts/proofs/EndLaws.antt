-- The last parts of streams, and the last places that segments give.
use Rattle.mxf_views.proofs.Common.{◌≡◌, ◌≢◌, ◌∙◌, ◌↔◌, ◌<◌, ◌≤◌, ◌+◌, ◌-◌, ◌*◌, ◌==◌, ◌&&◌, ◌||◌, ℕ, zero, suc, Bool, true, false, not}
use Rattle.mxf_views.proofs.Common.{List, [], ◌∷◌, Option, None, Some, refl, sym, ap, subst, inl, inr, arith, cond, drop, filter, map}
use Rattle.mxf_views.proofs.Common.{get_or, length, nat_le, nat_lt, max, eq-eqb, eqb-true, ltb-true, lt-ltb, le-leb, leb-true}
use Rattle.mxf_views.proofs.Common.{and_from, and_parts, cases_lt, false_from_ne_true, AllWithin, IsPartitionedBy, all-In, In-at, filter_none}
use Rattle.mxf_views.proofs.Common.{In, In-filter, NoteParts, PartitionParts, partitions_of, filter_map, is_some, list_any-In, list_all-In}
use Rattle.mxf_views.proofs.Common.{In-filter_map, Less, cons_option, covers_constant, covers_entry, entry_offset, mul-le-mul_left, same_Some}
use Rattle.std.proofs.Math.Nat.{mul-add}
use Rattle.mxf_views.specs.RandomIndex.{RipAtParts}
use Rattle.mxf_views.proofs.Common.{option_map, option_map_or, range_with_len, unsigned_abs, SegmentParts, entry_count, stream_offset}
use Rattle.mxf_views.proofs.Common.{IsContent, SegmentAtParts, segments_of, if◌then◌else◌}
use Rattle.mxf_klv.proofs.Counts.{In-range}
use Rattle.mxf_klv.proofs.Lists.{In-chosen, In-list_all}
use Rattle.mxf_views.proofs.PartitionSearch.{one_partition}
use Rattle.mxf_sets.specs.declared.pack.random_index.RipEntry.{RipEntry}
use Rattle.mxf_sets.specs.declared.segment.numbers.SegmentNumbers.{SegmentNumbers}
use Rattle.mxf_views.specs.RandomIndexView.{rip_view_of}
use Rattle.mxf_views.specs.declared.random_index.RipView.{RipView}
use Rattle.mxf_views.specs.declared.random_index.RipView.TheVariants.{Absent, Several, Unreadable, One}
use Rattle.mxf_views.specs.declared.random_index.Standing.{Standing}
use Rattle.mxf_views.specs.declared.random_index.Standing.TheVariants.{Held, Differs, Missing}
use Rattle.mxf_places.specs.Held.{end_of_file}
use Rattle.mxf_places.proofs.EndLaws.{end_says}
use Rattle.mxf_units.specs.EssenceZones.{IsFalling, first_packet, part_cmp, part_of, parts_of, zone_by, zone_of}
use Rattle.mxf_units.specs.Limits.{IsEssenceZone, IsFirstPacket}
use Rattle.mxf_units.specs.declared.essence_zone.EssenceZone.{EssenceZone}
use Rattle.mxf_units.specs.declared.essence_zone.part.StreamPart.{StreamPart}
use Rattle.mxf_units.proofs.LastLaws.{units-constant, units-listed}
use Rattle.mxf_units.proofs.LimitLaws.{first-says, one-zone, zone-by}
use Rattle.mxf_units.proofs.PartLaws.{follows, parts-fall}
use Rattle.mxf_units.proofs.StandingZones.{In-parts, falls-filter, not_itself}
use Rattle.mxf_doubts.specs.DoubtCauses.{ArePartitionsHeld, AtSegment, IsBehindEnd, IsLastOffset, IsLastZone, IsSizedAlike}
use Rattle.mxf_doubts.specs.StreamEnds.{are_partitions_held, begins_another, greatest_of, has_other_size, is_behind, is_behind_end}
use Rattle.mxf_doubts.specs.StreamEnds.{is_held_entry, is_of_stream, is_other_size, last_offset, last_sized, last_zone, listed_offsets, lists_held}
use Rattle.mxf_doubts.specs.StreamEnds.{reaches_limit, zone_by_first, zone_of_last}

-- ---- Where the parts of a stream begin in a list of all

abbrev pub is_later : ℕ → StreamPart → Bool
is_later body_sid p = nat_lt body_sid p.body_sid

not_later : (q p : StreamPart) → part_cmp q p ≡ Less → q.body_sid ≤ p.body_sid
not_later q p e = elim (follows q p e) [ inl l ↦ omega (arith, l) | inr u ↦ (let s = u.0 in omega (arith, s)) ]

pub later_parted : (body_sid : ℕ) (xs : List StreamPart) → IsFalling xs → IsPartitionedBy (is_later body_sid) xs
later_parted body_sid [] r i j d l h e = absurd (omega arith)
later_parted body_sid (x ∷ xs) r zero zero d l h e = e
later_parted body_sid (x ∷ xs) r zero (suc j) d l h e =
    let q = get_or xs j d in
    let m = not_later q x (all-In (λ q. part_cmp q x ≡ Less) xs q r.0 (In-at xs j d (omega arith))) in
    let t = ltb-true body_sid q.body_sid e in
    lt-ltb body_sid x.body_sid (omega (arith, m, t))
later_parted body_sid (x ∷ xs) r (suc i) zero d l h e = absurd (omega arith)
later_parted body_sid (x ∷ xs) r (suc i) (suc j) d l h e = later_parted body_sid xs r.1 i j d (omega arith) (omega arith) e

-- None of the parts is of a later stream.
abbrev NoneLater : ℕ → List StreamPart → Type 0
NoneLater body_sid xs = (x : StreamPart) → In x xs → x.body_sid ≤ body_sid

record Left (body_sid : ℕ) (xs : List StreamPart) (k : ℕ) : Type 0 where
  same : filter (is_of_stream body_sid) xs ≡ filter (is_of_stream body_sid) (drop k xs)
  falls : IsFalling (drop k xs)
  none : NoneLater body_sid (drop k xs)

none_behind : (body_sid : ℕ) (x : StreamPart) (xs : List StreamPart) → IsFalling (x ∷ xs) → x.body_sid ≤ body_sid
    → NoneLater body_sid (x ∷ xs)
none_behind body_sid x xs f l y (inl e) =
    let s : y.body_sid ≡ x.body_sid = ap (λ (z : StreamPart). z.body_sid) e in omega (arith, s, l)
none_behind body_sid x xs f l y (inr i) =
    let m = not_later y x (all-In (λ q. part_cmp q x ≡ Less) xs y f.0 i) in omega (arith, m, l)

left : (body_sid : ℕ) (xs : List StreamPart) (k : ℕ) → k ≤ length xs → IsFalling xs
    → AllWithin (λ p. is_later body_sid p ≡ true) xs 0 k → AllWithin (λ p. is_later body_sid p ≡ false) xs k (length xs)
    → Left body_sid xs k
left body_sid [] zero h f below above = record { same = refl; falls = tt; none = λ x i. absurd i }
left body_sid [] (suc k) h f below above = absurd (omega arith)
left body_sid (x ∷ xs) zero h f below above =
    let at : x.body_sid ≤ body_sid = elim (cases_lt body_sid x.body_sid) [
      | inl l ↦ absurd (let t = above 0 x (omega arith) (omega arith) in let u = lt-ltb body_sid x.body_sid l in cc (t, u))
      | inr m ↦ m
    ] in
    record { same = refl; falls = f; none = none_behind body_sid x xs f at }
left body_sid (x ∷ xs) (suc k) h f below above =
    let far = ltb-true body_sid x.body_sid (below 0 x (omega arith) (omega arith)) in
    let ih = left body_sid xs k (omega arith) f.1 (λ j d l m. below (suc j) d (omega arith) (omega arith))
    (λ j d l m. above (suc j) d (omega arith) (omega arith)) in
    record {
      same = ap (λ b. cond b (x ∷ filter (is_of_stream body_sid) xs) (filter (is_of_stream body_sid) xs))
          (false_from_ne_true (is_of_stream body_sid x) (λ t. let u = eqb-true x.body_sid body_sid t in omega (arith, u, far)))
          ∙ ih.same;
      falls = ih.falls;
      none = ih.none;
    }

-- The parts of a list whose first is of an earlier stream are all of earlier ones.
none_of : (body_sid : ℕ) (x : StreamPart) (xs : List StreamPart) → IsFalling (x ∷ xs) → x.body_sid < body_sid
    → filter (is_of_stream body_sid) (x ∷ xs) ≡ []
none_of body_sid x xs f l = filter_none (is_of_stream body_sid) (x ∷ xs) (λ q i t.
    let same = eqb-true q.body_sid body_sid t in
    let m = none_behind x.body_sid x xs f (omega arith) q i in omega (arith, same, m, l))

takes : (body_sid : ℕ) (x : StreamPart) (xs : List StreamPart) → x.body_sid ≡ body_sid
    → filter (is_of_stream body_sid) (x ∷ xs) ≡ x ∷ filter (is_of_stream body_sid) xs
takes body_sid x xs e =
    ap (λ b. cond b (x ∷ filter (is_of_stream body_sid) xs) (filter (is_of_stream body_sid) xs)) (eq-eqb x.body_sid body_sid e)

-- Where the first is of the stream.
beside : (body_sid : ℕ) (x : StreamPart) (xs : List StreamPart) → IsFalling (x ∷ xs) → x.body_sid ≡ body_sid
    → (if begins_another x xs then None else x.zone) ≡ zone_of_last (x ∷ filter (is_of_stream body_sid) xs)
beside body_sid x [] f e = refl
beside body_sid x (y ∷ ys) f e = elim (cases_lt y.body_sid body_sid) [
  | inl l ↦
      let apart : (x.body_sid == y.body_sid) ≡ false =
      false_from_ne_true (x.body_sid == y.body_sid) (λ t. let u = eqb-true x.body_sid y.body_sid t in omega (arith, u, l, e)) in
      ap (λ b. if (b && (x.body_offset == y.body_offset)) then None else x.zone) apart
      ∙ ap (λ l. zone_of_last (x ∷ l)) (sym (none_of body_sid y ys f.1 l))
  | inr m ↦
      let n = not_later y x f.0.0 in
      let same : y.body_sid ≡ body_sid = omega (arith, m, n, e) in
      ap (λ b. if (b && (x.body_offset == y.body_offset)) then None else x.zone) (eq-eqb x.body_sid y.body_sid (e ∙ sym same))
      ∙ ap (λ l. zone_of_last (x ∷ l)) (sym (takes body_sid y ys same))
]

by_first : (body_sid : ℕ) (xs : List StreamPart) → IsFalling xs → NoneLater body_sid xs
    → zone_by_first body_sid xs ≡ zone_of_last (filter (is_of_stream body_sid) xs)
by_first body_sid [] f none = refl
by_first body_sid (x ∷ xs) f none = elim (cases_lt x.body_sid body_sid) [
  | inl l ↦
      let apart : (x.body_sid == body_sid) ≡ false =
      false_from_ne_true (x.body_sid == body_sid) (λ t. let u = eqb-true x.body_sid body_sid t in omega (arith, u, l)) in
      ap (λ b. if (not b || begins_another x xs) then None else x.zone) apart
      ∙ ap zone_of_last (sym (none_of body_sid x xs f l))
  | inr m ↦
      let n = none x (inl refl) in
      let same : x.body_sid ≡ body_sid = omega (arith, m, n) in
      ap (λ b. if (not b || begins_another x xs) then None else x.zone) (eq-eqb x.body_sid body_sid same)
      ∙ beside body_sid x xs f same ∙ ap zone_of_last (sym (takes body_sid x xs same))
]

pub found_zone : (body_sid : ℕ) (xs ys : List StreamPart) (k : ℕ) → k ≤ length xs → IsFalling xs
    → AllWithin (λ p. is_later body_sid p ≡ true) xs 0 k → AllWithin (λ p. is_later body_sid p ≡ false) xs k (length xs)
    → ys ≡ drop k xs → zone_by_first body_sid ys ≡ zone_of_last (filter (is_of_stream body_sid) xs)
found_zone body_sid xs ys k h f below above e =
    let s = left body_sid xs k h f below above in
    ap (zone_by_first body_sid) e ∙ by_first body_sid (drop k xs) s.falls s.none ∙ ap zone_of_last (sym s.same)

-- ---- The last part of a stream

one_first : (z : EssenceZone) (o : Option EssenceZone) → o ≡ Some z → (b : Bool) → (if b then None else o) ≡ Some z → b ≡ false
one_first z o e true t = absurd (cc (t))
one_first z o e false t = refl

-- The zone of a partition is that by its first packet.
pub zone_tells : (notes : List NoteParts) (content : IsContent notes) (p : PartitionParts) (z : EssenceZone)
    → (zone_of notes p ≡ Some z) ↔ ((n : NoteParts) × IsFirstPacket notes p n × IsEssenceZone notes p n z)
unfolding zone_of
zone_tells notes content p z = (
  λ h. tell (first_packet notes p) refl h,
  λ k. ap (λ (o : Option NoteParts). option_map (zone_by notes p) o) ((first-says notes content p k.0).1 k.1)
      ∙ ap Some (one-zone notes p k.0 (zone_by notes p k.0) z (zone-by notes p k.0) k.2),
)
  where
    tell : (o : Option NoteParts) → first_packet notes p ≡ o → option_map (zone_by notes p) o ≡ Some z
        → (n : NoteParts) × IsFirstPacket notes p n × IsEssenceZone notes p n z
    tell None e t = absurd (cc (t))
    tell (Some n) e t = (
      n,
      (first-says notes content p n).0 e,
      subst (IsEssenceZone notes p n) (same_Some (zone_by notes p n) z t) (zone-by notes p n),
    )

module _ (notes : List NoteParts) (content : IsContent notes) (body_sid : ℕ) where
  abbrev of_stream : List StreamPart
  of_stream = filter (is_of_stream body_sid) (parts_of notes)

  -- The parts are those of the partitions of the stream.
  part_there : (x : StreamPart) → In x of_stream
      → (p : PartitionParts) × In p (partitions_of notes) × (p.pack.numbers.body_sid ≡ body_sid) × (x ≡ part_of notes p)
  part_there x i =
      let k = (In-filter (is_of_stream body_sid) (parts_of notes) x).0 i in
      let s = (In-parts notes x).0 k.0 in
      (s.0, s.1, sym (ap (λ (y : StreamPart). y.body_sid) s.2) ∙ eqb-true x.body_sid body_sid k.1, s.2)

  part_here : (p : PartitionParts) → In p (partitions_of notes) → p.pack.numbers.body_sid ≡ body_sid
      → In (part_of notes p) of_stream
  part_here p i e =
      (In-filter (is_of_stream body_sid) (parts_of notes) (part_of notes p)).1 (
        (In-parts notes (part_of notes p)).1 (p, i, refl),
        eq-eqb p.pack.numbers.body_sid body_sid e,
      )

  falls : IsFalling of_stream
  falls = falls-filter (is_of_stream body_sid) (parts_of notes) (parts-fall notes)

  offset_of : (p : PartitionParts) (x : StreamPart) → x ≡ part_of notes p → x.body_offset ≡ p.pack.numbers.body_offset
  offset_of p x e = ap (λ (y : StreamPart). y.body_offset) e

  sid_of : (x : StreamPart) → In x of_stream → x.body_sid ≡ body_sid
  sid_of x i = let s = part_there x i in ap (λ (y : StreamPart). y.body_sid) s.3 ∙ s.2

  not_above : (xs : List StreamPart) → ((x : StreamPart) → In x xs → x.body_sid ≡ body_sid) → (y x : StreamPart) → In y xs
      → In x xs → part_cmp y x ≡ Less → y.body_offset ≤ x.body_offset
  not_above xs sids y x i j e = elim (follows y x e) [
    | inl l ↦ (let a = sids y i in let b = sids x j in absurd (omega (arith, l, a, b)))
    | inr u ↦ u.1
  ]

  -- By the first of the parts and those behind it.
  first_last : (xs : List StreamPart) → of_stream ≡ xs → (z : EssenceZone) → zone_of_last xs ≡ Some z → IsLastZone notes body_sid z
  first_last [] e z t = absurd (cc (t))
  first_last (x ∷ xs) e z t =
      let at : (y : StreamPart) → In y (x ∷ xs) → In y of_stream = λ y i. subst (In y) (sym e) i in
      let s = part_there x (at x (inl refl)) in
      let fall : IsFalling (x ∷ xs) = subst IsFalling e falls in
      let own = by_second xs fall (λ y i. sid_of y (at y i)) t in
      let tells = (zone_tells notes content s.0 z).0 (sym (ap (λ (y : StreamPart). y.zone) s.3) ∙ own.0) in record {
        partition = s.0;
        held = s.1;
        body = s.2;
        others = λ q i b d.
            let y = part_of notes q in
            let k : In y (x ∷ xs) = subst (In y) e (part_here q i b) in
            elim k [
              | inl f ↦ absurd (d (one_partition notes q s.0 i s.1
                  (ap (λ (w : StreamPart). w.partition) f ∙ ap (λ (w : StreamPart). w.partition) s.3)))
              | inr j ↦
                  let l = own.1 y j in
                  let o = offset_of s.0 x s.3 in omega (arith, l, o)
            ];
        first = tells.0;
        first_is = tells.1;
        zone_is = tells.2;
      }
    where
      by_second : (ys : List StreamPart) → IsFalling (x ∷ ys) → ((y : StreamPart) → In y (x ∷ ys) → y.body_sid ≡ body_sid)
          → zone_of_last (x ∷ ys) ≡ Some z
          → (x.zone ≡ Some z) × ((y : StreamPart) → In y ys → y.body_offset < x.body_offset)
      by_second [] f sids t = (t, λ y i. absurd i)
      by_second (y ∷ ys) f sids t =
          elim (x.body_offset == y.body_offset) as (λ b. x.body_offset == y.body_offset ≡ b → cond b None x.zone ≡ Some z
          → (x.zone ≡ Some z) × ((w : StreamPart) → In w (y ∷ ys) → w.body_offset < x.body_offset)) [
            | true ↦ λ g h. absurd (cc (h))
            | false ↦ λ g h. (
              h,
              λ w i.
                  let m = not_above (x ∷ y ∷ ys) sids y x (inr (inl refl)) (inl refl) f.0.0 in
                  let n : x.body_offset ≢ y.body_offset = λ s. let k = eq-eqb x.body_offset y.body_offset s in cc (g, k) in
                  elim i [
                    | inl k ↦ (let o = ap (λ (v : StreamPart). v.body_offset) k in omega (arith, m, n, o))
                    | inr j ↦
                        let l = not_above (x ∷ y ∷ ys) sids w y (inr (inr j)) (inr (inl refl))
                        (all-In (λ q. part_cmp q y ≡ Less) ys w f.1.0 j) in omega (arith, m, n, l)
                  ],
            )
          ] refl t

  last_first : (z : EssenceZone) → IsLastZone notes body_sid z → (xs : List StreamPart) → of_stream ≡ xs → zone_of_last xs ≡ Some z
  last_first z k [] e =
      absurd (subst (In (part_of notes k.partition)) e (part_here k.partition k.held k.body))
  last_first z k (x ∷ xs) e =
      let y = part_of notes k.partition in
      let at : (w : StreamPart) → In w (x ∷ xs) → In w of_stream = λ w i. subst (In w) (sym e) i in
      let fall : IsFalling (x ∷ xs) = subst IsFalling e falls in
      let sids : (w : StreamPart) → In w (x ∷ xs) → w.body_sid ≡ body_sid = λ w i. sid_of w (at w i) in
      let lower : (w : StreamPart) → In w (x ∷ xs) → w ≢ y → w.body_offset < y.body_offset = λ w i d.
      let s = part_there w (at w i) in
      let l = k.others s.0 s.1 s.2 (λ f. d (s.3 ∙ ap (part_of notes) f)) in
      let o = offset_of s.0 w s.3 in omega (arith, l, o) in
      let first : y ≡ x = elim (subst (In y) e (part_here k.partition k.held k.body)) [
        | inl f ↦ f
        | inr i ↦
            let less = all-In (λ q. part_cmp q x ≡ Less) xs y fall.0 i in
            let m = not_above (x ∷ xs) sids y x (inr i) (inl refl) less in
            let l = lower x (inl refl) (λ f. not_itself x y less f) in
            absurd (omega (arith, m, l))
      ] in
      let own : x.zone ≡ Some z =
      sym (ap (λ (w : StreamPart). w.zone) first) ∙ (zone_tells notes content k.partition z).1 (k.first, k.first_is, k.zone_is) in
      behind xs fall (λ w i. lower w (inr i) (λ f.
      let less = all-In (λ q. part_cmp q x ≡ Less) xs w fall.0 i in not_itself x w less (sym (f ∙ first)))) first own
    where
      behind : (ys : List StreamPart) → IsFalling (x ∷ ys)
          → ((w : StreamPart) → In w ys → w.body_offset < (part_of notes k.partition).body_offset) → part_of notes k.partition ≡ x
          → x.zone ≡ Some z → zone_of_last (x ∷ ys) ≡ Some z
      behind [] f lower first own = own
      behind (w ∷ ys) f lower first own =
          let l = lower w (inl refl) in
          let o = ap (λ (v : StreamPart). v.body_offset) first in
          ap (λ b. if b then None else x.zone) (false_from_ne_true (x.body_offset == w.body_offset) (λ t.
          let s = eqb-true x.body_offset w.body_offset t in omega (arith, l, o, s)))
          ∙ own

  pub last_zone_is : (z : EssenceZone) → (last_zone notes body_sid ≡ Some z) ↔ IsLastZone notes body_sid z
  unfolding last_zone
  last_zone_is z = (λ h. first_last of_stream refl z h, λ k. last_first z k of_stream refl)

-- ---- The last place that a segment gives

-- The greatest of numbers is one of them, and none is greater.
record IsGreatest (xs : List ℕ) (x : ℕ) : Type 0 where
  among : In x xs
  greatest : (y : ℕ) → In y xs → y ≤ x

seen_greatest : (seen : ℕ) (xs : List ℕ) → (x : ℕ) × (greatest_of (Some seen) xs ≡ Some x) × IsGreatest (seen ∷ xs) x
seen_greatest seen [] = (
  seen,
  refl,
  record {
    among = inl refl;
    greatest = λ y i. elim i [ inl e ↦ omega (arith, e) | inr k ↦ absurd k ];
  },
)
seen_greatest seen (y ∷ ys) =
    let r = seen_greatest (max y seen) ys in
    let g = r.2.greatest (max y seen) (inl refl) in (
      r.0,
      r.1,
      record {
        among = elim r.2.among [
          | inl e ↦ elim (cases_lt y seen) [
            | inl l ↦ inl (omega (arith, e, l))
            | inr m ↦ inr (inl (omega (arith, e, m)))
          ]
          | inr i ↦ inr (inr i)
        ];
        greatest = λ w i. elim i [
          | inl e ↦ omega (arith, e, g)
          | inr k ↦ elim k [ inl e ↦ omega (arith, e, g) | inr j ↦ r.2.greatest w (inr j) ]
        ];
      },
    )

greatest_is : (xs : List ℕ) (x : ℕ) → (greatest_of None xs ≡ Some x) ↔ IsGreatest xs x
greatest_is [] x = (λ h. absurd (cc (h)), λ k. absurd k.among)
greatest_is (y ∷ ys) x =
    let r = seen_greatest y ys in (
      λ h. subst (IsGreatest (y ∷ ys)) (same_Some r.0 x (sym r.1 ∙ h)) r.2,
      λ k.
          let a = k.greatest r.0 r.2.among in
          let b = r.2.greatest x k.among in r.1 ∙ ap Some (omega (arith, a, b)),
    )

one_last_offset : (s : SegmentParts) (x y : ℕ) → IsLastOffset s x → IsLastOffset s y → x ≡ y
one_last_offset s x y a b =
    let l = b.greatest a.unit x a.given in let m = a.greatest b.unit y b.given in omega (arith, l, m)

-- One more unit that is listed, with a place or without.
from_next : (f : ℕ → Option ℕ) (unit end : ℕ) → unit < end → (o : Option ℕ) → f unit ≡ o
    → filter_map f (range_with_len unit (end - unit)) ≡ cons_option o (filter_map f (range_with_len (unit + 1) (end - (unit + 1))))
from_next f unit end l o e =
    let more : end - unit ≡ suc (end - (unit + 1)) = omega (arith, l) in
    ap (λ n. filter_map f (range_with_len unit n)) more
    ∙ ap (λ p. cons_option p (filter_map f (range_with_len (unit + 1) (end - (unit + 1))))) e

pub placed_step : (f : ℕ → Option ℕ) (seen : Option ℕ) (unit end x : ℕ) → unit < end → f unit ≡ Some x
    → greatest_of seen (filter_map f (range_with_len unit (end - unit)))
    ≡ greatest_of (Some (option_map_or (max x) seen x)) (filter_map f (range_with_len (unit + 1) (end - (unit + 1))))
placed_step f seen unit end x l e = ap (greatest_of seen) (from_next f unit end l (Some x) e)

pub skipped_step : (f : ℕ → Option ℕ) (seen : Option ℕ) (unit end : ℕ) → unit < end → f unit ≡ None
    → greatest_of seen (filter_map f (range_with_len unit (end - unit)))
    ≡ greatest_of seen (filter_map f (range_with_len (unit + 1) (end - (unit + 1))))
skipped_step f seen unit end l e = ap (greatest_of seen) (from_next f unit end l None e)

-- Of units that are listed.
listed_is : (s : SegmentParts) → s.numbers.unit_bytes ≤ 0 → (x : ℕ)
    → (greatest_of None (listed_offsets s) ≡ Some x) ↔ IsLastOffset s x
listed_is s none x =
    let start = unsigned_abs s.numbers.start in
    let range = range_with_len start (entry_count s) in
    let among : (y : ℕ) → In y (listed_offsets s) ↔ ((unit : ℕ) × In unit range × (stream_offset s unit ≡ Some y)) =
    λ y. In-filter_map (stream_offset s) range y in
    let there : (unit y : ℕ) → stream_offset s unit ≡ Some y → In y (listed_offsets s) = λ unit y e.
    let h = (units-listed s none unit).0 record { offset = y; given = e } in
    let a = h.0 in
    let b = h.1 in
    (among y).1 (unit, In-range start (entry_count s) unit a (omega (arith, b)), e) in
    let g = greatest_is (listed_offsets s) x in (
      λ h.
          let k = g.0 h in
          let u = (among x).0 k.among in
          record { unit = u.0; given = u.2; greatest = λ other y e. k.greatest y (there other y e) },
      λ k. g.1 record {
        among = there k.unit x k.given;
        greatest = λ y i. let u = (among y).0 i in k.greatest u.0 y u.2;
      },
    )

-- Of units of one size.
sized_at : (s : SegmentParts) (unit : ℕ) → 0 < s.numbers.unit_bytes
    → stream_offset s unit ≡ (if covers_constant s unit then Some (s.numbers.unit_bytes * unit) else None)
sized_at s unit some =
    let size = if covers_constant s unit then Some (s.numbers.unit_bytes * unit) else None in
    let place = unit - unsigned_abs s.numbers.start in
    let entry = if covers_entry s unit then Some (entry_offset s place) else None in
    ap (λ b. if b then size else entry) (lt-ltb 0 s.numbers.unit_bytes some)

when_given : (b : Bool) (v y : ℕ) → (if b then Some v else None) ≡ Some y → (b ≡ true) × (y ≡ v)
when_given true v y e = (refl, sym (same_Some v y e))
when_given false v y e = absurd (cc (e))

sized_place : (s : SegmentParts) (unit y : ℕ) → 0 < s.numbers.unit_bytes → stream_offset s unit ≡ Some y
    → (covers_constant s unit ≡ true) × (y ≡ s.numbers.unit_bytes * unit)
sized_place s unit y some e =
    when_given (covers_constant s unit) (s.numbers.unit_bytes * unit) y (sym (sized_at s unit some) ∙ e)

-- Units without an end have no last place.
endless : (s : SegmentParts) (x : ℕ) → 0 < s.numbers.unit_bytes → unsigned_abs s.numbers.duration ≡ 0 → IsLastOffset s x → ⊥
endless s x some none k =
    let unit = k.unit in
    let bytes = s.numbers.unit_bytes in
    let start = unsigned_abs s.numbers.start in
    let duration = unsigned_abs s.numbers.duration in
    let p = sized_place s unit x some k.given in
    let c = and_parts (nat_le start unit) ((duration == 0) || nat_lt unit (start + duration)) p.0 in
    let from = leb-true start unit c.0 in
    let next : covers_constant s (unit + 1) ≡ true =
    and_from (nat_le start (unit + 1)) ((duration == 0) || nat_lt (unit + 1) (start + duration))
    (le-leb start (unit + 1) (omega (arith, from)))
    (ap (λ b. b || nat_lt (unit + 1) (start + duration)) (eq-eqb duration 0 none)) in
    let given = sized_at s (unit + 1) some ∙ ap (λ b. if b then Some (bytes * (unit + 1)) else None) next in
    let l = k.greatest (unit + 1) (bytes * (unit + 1)) given in
    let at = p.1 in
    let more = mul-add bytes unit 1 in
    omega (arith, l, at, more, some)

last_place : (s : SegmentParts) → 0 < s.numbers.unit_bytes → unsigned_abs s.numbers.duration ≢ 0 → (x : ℕ)
    → (stream_offset s (unsigned_abs s.numbers.start + (unsigned_abs s.numbers.duration - 1)) ≡ Some x) ↔ IsLastOffset s x
last_place s some ends x =
    let bytes = s.numbers.unit_bytes in
    let start = unsigned_abs s.numbers.start in
    let duration = unsigned_abs s.numbers.duration in
    let last = start + (duration - 1) in
    let are = units-constant s (λ e. ends (ap unsigned_abs e.duration)) some in
    let is_last : (y : ℕ) → stream_offset s last ≡ Some y → IsLastOffset s y = λ y e. record {
      unit = last;
      given = e;
      greatest = λ other z f.
          let h = ((are other).0 record { offset = z; given = f }).1 in
          let up = mul-le-mul_left bytes (below_last other start duration h) in
          let a = (sized_place s other z some f).1 in
          let b = (sized_place s last y some e).1 in
          omega (arith, up, a, b);
    } in
    let there = (are last).1 (omega arith, omega (arith, ends)) in (
      λ h. is_last x h,
      λ k. there.given ∙ ap Some (one_last_offset s there.offset x (is_last there.offset there.given) k),
    )
  where
    below_last : (other start duration : ℕ) → other < start + duration → other ≤ start + (duration - 1)
    below_last other start duration h = omega (arith, h)

alike : (notes : List NoteParts) (n : SegmentNumbers) → (has_other_size notes n ≡ true → ⊥) ↔ IsSizedAlike notes n
alike notes n =
    let any = list_any-In (is_other_size n) (segments_of notes) in (
      λ none t i some index body.
          let m = t.segment.numbers in
          elim (m.unit_bytes == n.unit_bytes) as (λ b. m.unit_bytes == n.unit_bytes ≡ b → m.unit_bytes ≡ n.unit_bytes) [
            | true ↦ λ e. eqb-true m.unit_bytes n.unit_bytes e
            | false ↦ λ e. absurd (none (any.1 (
              t,
              i,
              other_from (nat_lt 0 m.unit_bytes) (m.index_sid == n.index_sid) (m.body_sid == n.body_sid)
                  (m.unit_bytes == n.unit_bytes) (lt-ltb _ _ some) (eq-eqb _ _ index) (eq-eqb _ _ body) e,
            )))
          ] refl,
      λ same h.
          let s = any.0 h in
          let m = s.0.segment.numbers in
          let p = other_parts (nat_lt 0 m.unit_bytes) (m.index_sid == n.index_sid) (m.body_sid == n.body_sid)
          (m.unit_bytes == n.unit_bytes) s.2 in
          let e = same s.0 s.1 (ltb-true _ _ p.0) (eqb-true _ _ p.1) (eqb-true _ _ p.2) in
          let t = eq-eqb m.unit_bytes n.unit_bytes e in
          cc (t, p.3),
    )
  where
    other_from : (a b c d : Bool) → a ≡ true → b ≡ true → c ≡ true → d ≡ false → (a && b && c && not d) ≡ true
    other_from a b c d e f g h = cc

    other_parts : (a b c d : Bool) → (a && b && c && not d) ≡ true → (a ≡ true) × (b ≡ true) × (c ≡ true) × (d ≡ false)
    other_parts a b c d h = grind arith

sized_is : (notes : List NoteParts) (s : SegmentParts) → 0 < s.numbers.unit_bytes → (x : ℕ)
    → (last_sized notes s ≡ Some x) ↔ (IsSizedAlike notes s.numbers × IsLastOffset s x)
sized_is notes s some x =
    let n = s.numbers in
    let duration = unsigned_abs n.duration in
    let place = stream_offset s (unsigned_abs n.start + (duration - 1)) in
    let same = alike notes n in (
      λ h.
          let p = neither (duration == 0) (has_other_size notes n) place x h in
          let ends : duration ≢ 0 = λ e. let t = eq-eqb duration 0 e in let q = p.0 in cc (t, q) in
          (same.0 (λ t. let q = p.1 in cc (t, q)), (last_place s some ends x).0 p.2),
      λ k.
          let ends : duration ≢ 0 = λ e. endless s x some e k.1 in
          let none : (duration == 0) ≡ false = false_from_ne_true (duration == 0) (λ t. ends (eqb-true duration 0 t)) in
          let alone : has_other_size notes n ≡ false = false_from_ne_true (has_other_size notes n) (same.1 k.0) in
          ap (λ b. if (b || has_other_size notes n) then None else place) none
          ∙ ap (λ b. if b then None else place) alone ∙ (last_place s some ends x).1 k.1,
    )
  where
    neither : (a b : Bool) (o : Option ℕ) (x : ℕ) → (if (a || b) then None else o) ≡ Some x
        → (a ≡ false) × (b ≡ false) × (o ≡ Some x)
    neither true b o x h = absurd (cc (h))
    neither false true o x h = absurd (cc (h))
    neither false false o x h = (refl, refl, h)

pub last_offset_is : (notes : List NoteParts) (s : SegmentParts) (x : ℕ)
    → (last_offset notes s ≡ Some x) ↔ ((0 < s.numbers.unit_bytes → IsSizedAlike notes s.numbers) × IsLastOffset s x)
unfolding last_offset
last_offset_is notes s x =
    elim (nat_lt 0 s.numbers.unit_bytes) as (λ b. nat_lt 0 s.numbers.unit_bytes ≡ b
    → (cond b (last_sized notes s) (greatest_of None (listed_offsets s)) ≡ Some x)
    ↔ ((0 < s.numbers.unit_bytes → IsSizedAlike notes s.numbers) × IsLastOffset s x)) [
      | true ↦ λ e.
          let some = ltb-true 0 s.numbers.unit_bytes e in
          let k = sized_is notes s some x in
          (λ h. let r = k.0 h in (λ t. r.0, r.1), λ r. k.1 (r.0 some, r.1))
      | false ↦ λ e.
          let none : s.numbers.unit_bytes ≤ 0 = elim (cases_lt 0 s.numbers.unit_bytes) [
            | inl l ↦ absurd (let t = lt-ltb 0 s.numbers.unit_bytes l in cc (t, e))
            | inr m ↦ m
          ] in
          let k = listed_is s none x in
          (λ h. (λ t. absurd (omega (arith, t, none)), k.0 h), λ r. k.1 r.1)
    ] refl

-- ---- Units behind the end

module _ (notes : List NoteParts) (content : IsContent notes) where
  partitions_held : (are_partitions_held notes ≡ true) ↔ ArePartitionsHeld notes
  partitions_held = (
    λ h.
        let p = and_parts (is_some (end_of_file notes)) (lists_held (rip_view_of notes)) h in
        let e = some_there (end_of_file notes) p.0 in
        let r = by_view (rip_view_of notes) refl p.1 in record {
          end = e.0;
          end_is = (end_says notes e.0).0 e.1;
          rip = r.0;
          rip_is = r.1;
          held = r.2;
        },
    λ k. and_from _ _ (ap is_some ((end_says notes k.end).1 k.end_is))
        (ap lists_held k.rip_is ∙ In-list_all is_held_entry k.rip.entries (λ e i. held_by e.0 e.1 (k.held e i))),
  )
    where
      some_there : (o : Option ℕ) → is_some o ≡ true → (x : ℕ) × (o ≡ Some x)
      some_there None e = absurd (cc (e))
      some_there (Some x) e = (x, refl)

      by_entry : (entry : RipEntry) (standing : Standing) → is_held_entry (entry, standing) ≡ true → standing ≡ Held
      by_entry entry Held e = refl
      by_entry entry Differs e = absurd (cc (e))
      by_entry entry Missing e = absurd (cc (e))

      held_by : (entry : RipEntry) (standing : Standing) → standing ≡ Held → is_held_entry (entry, standing) ≡ true
      held_by entry standing e = ap (λ (s : Standing). is_held_entry (entry, s)) e

      by_view : (view : RipView) → rip_view_of notes ≡ view → lists_held view ≡ true
          → (r : RipAtParts) × (rip_view_of notes ≡ One r) × ((e : RipEntry × Standing) → In e r.entries → e.1 ≡ Held)
      by_view Absent e t = absurd (cc (t))
      by_view Several e t = absurd (cc (t))
      by_view (Unreadable offset) e t = absurd (cc (t))
      by_view (One r) e t = (r, e, λ x i. by_entry x.0 x.1 (list_all-In is_held_entry r.entries x t i))

  behind_parts : (zone : Option EssenceZone) (last : Option ℕ) → is_behind zone last ≡ true
      → (z : EssenceZone) × (x : ℕ) × (zone ≡ Some z) × (last ≡ Some x) × (reaches_limit x z ≡ true)
  behind_parts None last h = absurd (cc (h))
  behind_parts (Some z) None h = absurd (cc (h))
  behind_parts (Some z) (Some x) h = (z, x, refl, refl, h)

  limit_parts : (limit : Option ℕ) (body x origin : ℕ) → option_map_or (λ l. nat_le (l + body) (x + origin)) limit false ≡ true
      → (l : ℕ) × (limit ≡ Some l) × (l + body ≤ x + origin)
  limit_parts None body x origin h = absurd (cc (h))
  limit_parts (Some l) body x origin h = (l, refl, leb-true (l + body) (x + origin) h)

  behind_end : (s : SegmentAtParts) → (is_behind_end notes s ≡ true) ↔ IsBehindEnd notes s
  unfolding is_behind_end
  behind_end s =
      let sid = s.segment.numbers.body_sid in
      let zone = last_zone notes sid in
      let last = last_offset notes s.segment in (
        λ h.
            let p = and_parts (are_partitions_held notes) (is_behind zone last) h in
            let b = behind_parts zone last p.1 in
            let z = b.0 in
            let x = b.1 in
            let l = limit_parts z.limit z.body_offset x z.origin b.4 in
            let o = (last_offset_is notes s.segment x).0 b.3 in record {
              partitions = partitions_held.0 p.0;
              sized = o.0;
              offset = x;
              offset_is = o.1;
              zone = z;
              zone_is = (last_zone_is notes content sid z).0 b.2;
              limit = l.0;
              limit_is = l.1;
              behind = l.2;
            },
        λ k.
            let z = k.zone in
            let x = k.offset in
            let zone_is = (last_zone_is notes content sid z).1 k.zone_is in
            let last_is = (last_offset_is notes s.segment x).1 (k.sized, k.offset_is) in
            and_from (are_partitions_held notes) (is_behind zone last) (partitions_held.1 k.partitions)
            (ap (λ o. is_behind o last) zone_is ∙ ap (is_behind (Some z)) last_is
            ∙ ap (λ o. option_map_or (λ l. nat_le (l + z.body_offset) (x + z.origin)) o false) k.limit_is
            ∙ le-leb (k.limit + z.body_offset) (x + z.origin) k.behind),
      )

  pub behind_ends : (o : ℕ) → In o (map (λ s. s.offset) (filter (is_behind_end notes) (segments_of notes))) ↔ AtSegment notes o
  behind_ends o =
      let m = In-chosen (λ (s : SegmentAtParts). s.offset) (is_behind_end notes) (segments_of notes) o in (
        λ h. let s = m.0 h in (s.0, s.1, s.3, (behind_end s.0).0 s.2),
        λ k. m.1 (k.0, k.1, (behind_end k.0).1 k.3, k.2),
      )
