-- Where units miss their packets: the first of each row.
use Rattle.mxf_views.proofs.Common.{◌≡◌, ◌≢◌, ◌∙◌, ◌↔◌, ◌⊎◌, ◌<◌, ◌≤◌, ◌+◌, ℕ, zero, suc, Bool, true, false, List, [], ◌∷◌}
use Rattle.mxf_views.proofs.Common.{None, Some, refl, sym, ap, subst, inl, inr, arith, In, In-filter_map, In-union, filter_map}
use Rattle.mxf_views.proofs.Common.{NoteParts, IsContent, IsRising, IsRising-union, IsTotalOrder, Less, same_Some}
use Rattle.mxf_views.proofs.Common.{nat_cmp, nat_cmp-IsAntisymmetric, nat_cmp_total, on_total, then_total, ties, ordering_then, all_from_In}
use Rattle.mxf_views.proofs.Common.{all-In, Ok, Ordering, bool_cmp, tied_itself, IsGiven, segments_of, ◌-◌}
use Rattle.std.specs.Cmp.{bool_cmp_total}
use Rattle.std.specs.FinSet.{IsAntisymmetric}
use Rattle.mxf_units.specs.EssenceZones.{parts_of}
use Rattle.mxf_units.specs.Standings.{IsZone}
use Rattle.mxf_units.proofs.OneStanding.{one-zone}
use Rattle.mxf_doubts.specs.declared.starts.UnitStart.{UnitStart}
use Rattle.mxf_doubts.specs.DoubtCauses.{BeginsPacket, IsAskedIndex, IsFirstMiss, IsUnitAt, MissesPacket}
use Rattle.mxf_doubts.specs.UnitStarts.{asked_units, begins_packet, missed_starts, start_cmp, start_of, starts_of}
use Rattle.mxf_doubts.proofs.AskedLaws.{lower, member, not_good}
use Rattle.mxf_doubts.proofs.MissLaws.{begins, not_both}
use Rattle.mxf_doubts.proofs.RowLaws.{AreInRows, AreTogether, IsAmong, IsBefore, IsFirstOf, rows}
use Rattle.mxf_doubts.proofs.StartLaws.{lying_start, start_says}

-- ---- The order of starts

pub start_total : IsTotalOrder start_cmp
start_total =
    then_total (on_total (λ (s : UnitStart). s.body_sid) nat_cmp_total)
    (then_total (on_total (λ (s : UnitStart). s.body_offset) nat_cmp_total)
    (then_total (on_total (λ (s : UnitStart). s.unit) nat_cmp_total)
    (then_total (on_total (λ (s : UnitStart). s.offset) nat_cmp_total) (on_total (λ (s : UnitStart). s.is_good) bool_cmp_total))))

one_bool : IsAntisymmetric bool_cmp
one_bool false false e = refl
one_bool false true e = absurd cc
one_bool true false e = absurd cc
one_bool true true e = refl

pub one_start : IsAntisymmetric start_cmp
one_start a b e =
    let p = ties _ _ e in
    let q = ties _ _ p.1 in
    let r = ties _ _ q.1 in
    let s = ties _ _ r.1 in
    let sid = nat_cmp-IsAntisymmetric a.body_sid b.body_sid p.0 in
    let part = nat_cmp-IsAntisymmetric a.body_offset b.body_offset q.0 in
    let unit = nat_cmp-IsAntisymmetric a.unit b.unit r.0 in
    let offset = nat_cmp-IsAntisymmetric a.offset b.offset s.0 in
    let good = one_bool a.is_good b.is_good s.1 in
    λ i. record { body_sid = sid i; body_offset = part i; unit = unit i; offset = offset i; is_good = good i }

less_first : (a b : ℕ) (o : Ordering) → ordering_then (nat_cmp a b) o ≡ Less → a ≤ b
less_first a b o e = grind (arith, nat_cmp)

less_rest : (a b : ℕ) (o : Ordering) → ordering_then (nat_cmp a b) o ≡ Less → a ≡ b → o ≡ Less
less_rest a b o e f = grind (arith, nat_cmp)

module _ (notes : List NoteParts) (content : IsContent notes) where
  abbrev units : List (ℕ × ℕ)
  units = asked_units notes (parts_of notes)

  abbrev starts : List UnitStart
  starts = starts_of notes

  In-starts : (s : UnitStart) → In s starts ↔ ((u : ℕ × ℕ) × In u units × (start_of notes u ≡ Some s))
  In-starts s =
      let m = In-union start_total one_start s [] (filter_map (start_of notes) units) in
      let f = In-filter_map (start_of notes) units s in
      (λ h. elim (m.0 h) [ inl k ↦ absurd k | inr k ↦ f.0 k ], λ k. m.1 (inr (f.1 k)))

  one_asked : (body_sid i j : ℕ) → IsAskedIndex notes body_sid i → IsAskedIndex notes body_sid j → i ≡ j
  one_asked body_sid i j a b =
      let l = a.least b.by b.held b.body in
      let m = b.least a.by a.held a.body in
      let e = a.index in
      let f = b.index in
      omega (arith, l, m, e, f)

  -- A unit has one start in a partition.
  single : (r s : UnitStart) → In r starts → In s starts → AreTogether r s → r.unit ≡ s.unit → r ≡ s
  single r s i j e unit =
      let a = (In-starts r).0 i in
      let b = (In-starts s).0 j in
      let u = start_says notes content a.0 r a.2 in
      let v = start_says notes content b.0 s b.2 in
      let index : a.0.0 ≡ b.0.0 = one_asked s.body_sid a.0.0 b.0.0
      (subst (λ sid. IsAskedIndex notes sid a.0.0) e.0 u.0.index) v.0.index in
      let number : a.0.1 ≡ b.0.1 = sym u.1 ∙ unit ∙ v.1 in
      let same : a.0 ≡ b.0 = λ k. (index k, number k) in
      same_Some r s (sym a.2 ∙ ap (start_of notes) same ∙ b.2)

  not_itself : (x y : UnitStart) → start_cmp x y ≡ Less → x ≡ y → ⊥
  not_itself x y l e =
      let t = tied_itself start_total x in
      let u : start_cmp x x ≡ Less = subst (λ z. start_cmp x z ≡ Less) (sym e) l in cc (t, u)

  is_before : (r s : UnitStart) → In r starts → In s starts → start_cmp r s ≡ Less → IsBefore r s
  is_before r s i j l = record {
    sid = less_first r.body_sid s.body_sid _ l;
    offset = λ e. less_first r.body_offset s.body_offset _ (less_rest r.body_sid s.body_sid _ l e);
    unit = λ e.
        let up = less_first r.unit s.unit _ (less_rest r.body_offset s.body_offset _ (less_rest r.body_sid s.body_sid _ l e.0) e.1) in
        let apart : r.unit ≢ s.unit = λ f. not_itself r s l (single r s i j e f) in
        omega (arith, up, apart);
  }

  in_rows : (xs : List UnitStart) → ((x : UnitStart) → In x xs → In x starts) → IsRising start_cmp xs → AreInRows xs
  in_rows [] all r = tt
  in_rows (x ∷ xs) all r = (
    all_from_In (IsBefore x) xs
        (λ y i. is_before x y (all x (inl refl)) (all y (inr i)) (all-In (λ y. start_cmp x y ≡ Less) xs y r.0 i)),
    in_rows xs (λ y i. all y (inr i)) r.1,
  )

  among_none : (r : UnitStart) → IsAmong None starts r → In r starts
  among_none r (inl e) = absurd (cc (e))
  among_none r (inr i) = i

  -- ---- What each start is

  good_start : (body_sid body_offset unit x : ℕ) → IsUnitAt notes body_sid body_offset unit x → BeginsPacket notes x
      → (s : UnitStart) × In s starts × (s.is_good ≡ true) × (s.body_sid ≡ body_sid) × (s.body_offset ≡ body_offset) × (s.unit ≡ unit)
      × (s.offset ≡ x)
  good_start body_sid body_offset unit x k b =
      let e = lying_start notes content body_sid body_offset unit x k (inl b) in
      let asked : In (k.index_sid, unit) units = elim (member notes content (k.index_sid, unit)) [
        | inl i ↦ i
        | inr out ↦ absurd (not_good notes content body_sid body_offset unit x k out b)
      ] in (
        record { body_sid = body_sid; body_offset = body_offset; unit = unit; offset = x; is_good = begins_packet notes x },
        (In-starts _).1 ((k.index_sid, unit), asked, e),
        (begins notes x).1 b,
        refl,
        refl,
        refl,
        refl,
      )

  bad_start : (s : UnitStart) → In s starts → s.is_good ≡ false
      → IsUnitAt notes s.body_sid s.body_offset s.unit s.offset × MissesPacket notes s.offset
  bad_start s i bad =
      let a = (In-starts s).0 i in
      let u = start_says notes content a.0 s a.2 in
      elim u.0.told [
        | inl g ↦ absurd (let t = g.0 in cc (t, bad))
        | inr m ↦ (u.0.lies, m.1)
      ]

  told_good : (s : UnitStart) → In s starts → s.is_good ≡ true
      → IsUnitAt notes s.body_sid s.body_offset s.unit s.offset × BeginsPacket notes s.offset
  told_good s i good =
      let a = (In-starts s).0 i in
      let u = start_says notes content a.0 s a.2 in
      elim u.0.told [
        | inl g ↦ (u.0.lies, g.1)
        | inr m ↦ absurd (let t = m.0 in cc (t, good))
      ]

  -- A unit that misses its packet and isn't asked follows one.
  missed_start : (body_sid body_offset unit x : ℕ) → IsUnitAt notes body_sid body_offset unit x → MissesPacket notes x
      → ((s : UnitStart) × In s starts × (s.is_good ≡ false) × (s.body_sid ≡ body_sid) × (s.body_offset ≡ body_offset)
      × (s.unit ≡ unit) × (s.offset ≡ x))
      ⊎ ((v : ℕ) × (unit ≡ v + 1) × (w : ℕ) × IsUnitAt notes body_sid body_offset v w × MissesPacket notes w)
  missed_start body_sid body_offset unit x k m = elim (member notes content (k.index_sid, unit)) [
    | inr out ↦ inr (lower notes content body_sid body_offset unit x k out m)
    | inl i ↦ inl (
      record { body_sid = body_sid; body_offset = body_offset; unit = unit; offset = x; is_good = begins_packet notes x },
      (In-starts _).1 ((k.index_sid, unit), i, lying_start notes content body_sid body_offset unit x k (inr m)),
      false_by (begins_packet notes x) (λ t. not_both notes x ((begins notes x).0 t) m),
      refl,
      refl,
      refl,
      refl,
    )
  ]
    where
      false_by : (b : Bool) → (b ≡ true → ⊥) → b ≡ false
      false_by true f = absurd (f refl)
      false_by false f = refl

  -- ---- The first of each row

  abbrev IsFirstStart : UnitStart → Type 0
  IsFirstStart s = IsFirstOf None starts s

  -- Before each unit of the partition that misses its packet stands a good one, if that is so of those that are asked.
  good_between : (s : UnitStart) → IsFirstStart s → In s starts → (n u y : ℕ) → u < n → u < s.unit
      → IsUnitAt notes s.body_sid s.body_offset u y → MissesPacket notes y
      → (v : ℕ) × (z : ℕ) × (u < v) × (v < s.unit) × IsUnitAt notes s.body_sid s.body_offset v z × BeginsPacket notes z
  good_between s first i zero u y l m k miss = absurd (omega (arith, l))
  good_between s first i (suc n) u y l m k miss = elim (missed_start s.body_sid s.body_offset u y k miss) [
    | inl r ↦
        let unit = r.5 in
        let g = first.first r.0 (inr r.1) r.2 (r.3, r.4) (omega (arith, unit, m)) in
        let own = told_good g.0 (among_none g.0 g.1) g.2 in
        let a = g.4 in (
          g.0.unit,
          g.0.offset,
          omega (arith, a, unit),
          g.5,
          subst (λ o. IsUnitAt notes s.body_sid o g.0.unit g.0.offset) g.3.1
              (subst (λ b. IsUnitAt notes b g.0.body_offset g.0.unit g.0.offset) g.3.0 own.0),
          own.1,
        )
    | inr r ↦
        let next = r.1 in
        let g = good_between s first i n r.0 r.2 (omega (arith, next, l)) (omega (arith, next, m)) r.3 r.4 in
        let a = g.2 in
        let apart : g.0 ≢ u = λ e. not_both notes g.1 g.5 (same_unit g.0 u g.1 y e g.4 k miss) in
        (g.0, g.1, omega (arith, a, apart, next), g.3, g.4, g.5)
  ]
    where
      -- A unit of a partition lies at one offset.
      one_place : (b p q : ℕ) → IsUnitAt notes s.body_sid s.body_offset b p → IsUnitAt notes s.body_sid s.body_offset b q → p ≡ q
      one_place b p q j k2 =
          let index = one_asked s.body_sid j.index_sid k2.index_sid j.asked k2.asked in
          let place = (k2.placed.only (record { body_sid = s.body_sid; offset = j.place })
          (subst (λ c. IsGiven (segments_of notes) c b (record { body_sid = s.body_sid; offset = j.place })) index j.placed.given)).1 in
          let zone : Ok j.zone ≡ Ok k2.zone = one-zone notes s.body_sid k2.place (Ok j.zone) (Ok k2.zone)
          (subst (λ c. IsZone notes s.body_sid c (Ok j.zone)) place j.zone_is) k2.zone_is in
          let same : j.zone ≡ k2.zone = cc (zone) in
          j.at ∙ (λ t. (same t).origin + (place t - (same t).body_offset)) ∙ sym k2.at

      same_unit : (a b p q : ℕ) → a ≡ b → IsUnitAt notes s.body_sid s.body_offset a p → IsUnitAt notes s.body_sid s.body_offset b q
          → MissesPacket notes q → MissesPacket notes p
      same_unit a b p q e j k2 w = subst (MissesPacket notes) (one_place b q p k2 (subst (λ c. IsUnitAt notes s.body_sid s.body_offset c p) e j)) w

  pub first_misses_are : (o : ℕ) → In o (missed_starts notes) ↔ IsFirstMiss notes o
  unfolding missed_starts
  first_misses_are o =
      let rising : IsRising start_cmp starts = IsRising-union start_total one_start [] (filter_map (start_of notes) units) tt in
      let law = rows None starts (λ r e. absurd (cc (e))) (in_rows starts (λ x i. i) rising) o in (
        λ h.
            let t = law.0 h in
            let s = t.0 in
            let own = bad_start s t.1 t.2.bad in
            subst (IsFirstMiss notes) (sym t.3) (record {
              body_sid = s.body_sid;
              body_offset = s.body_offset;
              unit = s.unit;
              lies = own.0;
              misses = own.1;
              first = λ u y l k miss. good_between s t.2 t.1 (u + 1) u y (omega arith) l k miss;
            }),
        λ k. law.1 (elim (missed_start k.body_sid k.body_offset k.unit o k.lies k.misses) [
          | inr r ↦ absurd (
              let next = r.1 in
              let g = k.first r.0 r.2 (omega (arith, next)) r.3 r.4 in
              let a = g.2 in
              let b = g.3 in omega (arith, a, b, next))
          | inl s ↦ (
            s.0,
            s.1,
            record {
              bad = s.2;
              first = λ r i bad e l.
                  let j = among_none r i in
                  let own = bad_start r j bad in
                  let sid = e.0 ∙ s.3 in
                  let part = e.1 ∙ s.4 in
                  let unit = s.5 in
                  let g = k.first r.unit r.offset (omega (arith, l, unit))
                  (subst (λ p. IsUnitAt notes k.body_sid p r.unit r.offset) part
                  (subst (λ b. IsUnitAt notes b r.body_offset r.unit r.offset) sid own.0)) own.1 in
                  let w = good_start k.body_sid k.body_offset g.0 g.1 g.4 g.5 in
                  let a = g.2 in
                  let b = g.3 in
                  let c = w.5 in
                  (w.0, inr w.1, w.2, (w.3 ∙ sym s.3, w.4 ∙ sym s.4), omega (arith, a, c), omega (arith, b, c, unit));
            },
            sym s.6,
          )
        ]),
      )
