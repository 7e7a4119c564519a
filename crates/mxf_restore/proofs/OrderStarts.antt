-- No two orders have one start.
use Rattle.mxf_views.proofs.Common.{◌≡◌, ◌⊎◌, ◌∙◌, ◌<◌, ◌≤◌, ◌+◌, ◌==◌, ℕ, Bool, true, false, not, nat_lt, List, []}
use Rattle.mxf_views.proofs.Common.{◌∷◌, map, max, nat_le, unwrap_or, is_some, ◌&&◌, ◌||◌, Option, None, Some, cond}
use Rattle.mxf_views.proofs.Common.{filter, find, if◌then◌else◌, option_map, ltb-true, refl, sym, ap, subst, inl, inr}
use Rattle.mxf_views.proofs.Common.{arith, eqb-true, eq-eqb, and_parts, cases_lt, or_right, same_Some, option_map_or}
use Rattle.mxf_views.proofs.Common.{NoteParts, covered_end, In, In-filter, In-map, found-In, IsContent, covers_first}
use Rattle.mxf_views.proofs.Common.{IsCover}
use Rattle.std.proofs.Common.{leb-true, option_to_list}
use Rattle.std.proofs.lemmas.Bool.{lt-ltb}
use Rattle.mxf_places.specs.AtHand.{AtHandParts, edge_of, has_offsets, is_none, lacking, nothing_at_hand, runs_end}
use Rattle.mxf_places.specs.AtHand.{up_to_bound}
use Rattle.mxf_places.specs.declared.at_hand.OffsetRange.{OffsetRange}
use Rattle.mxf_places.specs.Held.{IsHeld, end_of_file, top_of}
use Rattle.mxf_places.proofs.AtHandLaws.{Rise, lacking_rise, one_start, rise_above, rise_from}
use Rattle.mxf_places.specs.Claims.{claim_at}
use Rattle.mxf_restore.specs.Sections.{IsEndOfHole, LiesInSection, sections_of}
use Rattle.mxf_restore.specs.EndPacks.{has_end_pack}
use Rattle.mxf_restore.specs.Plan.{asked, asked_by, asked_of, begun_at, end_by, gap_from, is_again, is_whole_needed}
use Rattle.mxf_restore.specs.Plan.{orders_by, orders_of, part_order, parts_among, parts_of, plan_of}
use Rattle.mxf_places.specs.Heads.{is_head_to, needed_of, start_of}
use Rattle.mxf_places.specs.declared.claim.Claim.{Claim}
use Rattle.mxf_restore.specs.declared.section.Section.{Section}
use Rattle.mxf_restore.specs.declared.plan.Order.{Order}
use Rattle.mxf_restore.proofs.OrderCover.{start_below}
use Rattle.mxf_restore.proofs.SectionCover.{are_sections}
use Rattle.mxf_restore.proofs.PlanMembers.{order_members}
use Rattle.mxf_restore.proofs.Options.{some_from, some_if}

asked_start : (ended : Bool) (claim : Option Claim) (start : ℕ) (end : Option ℕ) (o : Order)
    → asked ended claim start end ≡ Some o → o.start ≡ start
asked_start ended None start end o e =
    sym (ap (λ (r : Order). r.start) (some_if (is_some end || not ended) (gap_from start end) o e).1)
asked_start ended (Some c) start end o e = sym (ap (λ (r : Order). r.start) (same_Some _ o e))

-- ---- the parts of one section

module _ (at : AtHandParts) (cover : IsCover at.hand) (p : Section) (o : Order) (low : o.start ≤ p.first) where
  begun_rise : (ranges : List OffsetRange) → Rise p.first ranges → Rise o.start (begun_at o.start ranges)
  begun_rise [] r = tt
  begun_rise (g ∷ ranges) r =
      let from : p.first ≤ g.start = r.0 in
      (omega arith, rise_from (o.start + 1) (g.start + 1) ranges (omega (arith, from, low)) r.1)

  filter_rise : (q : OffsetRange → Bool) (from : ℕ) (ranges : List OffsetRange) → Rise from ranges
      → Rise from (filter q ranges)
  filter_rise q from [] r = tt
  filter_rise q from (g ∷ ranges) r =
      let at_g : from ≤ g.start = r.0 in
      let ih = filter_rise q (g.start + 1) ranges r.1 in
      elim (q g) as (λ b. Rise from (cond b (g ∷ filter q ranges) (filter q ranges))) [
        | true ↦ (at_g, ih)
        | false ↦ rise_from from (g.start + 1) (filter q ranges) (omega (arith, at_g)) ih
      ]

  -- The range begins before the next section does.
  abbrev before_next : OffsetRange → Bool
  before_next r = option_map_or (λ e. nat_lt r.start e) p.end true

  among_rise : (ranges : List OffsetRange) → Rise p.first ranges → Rise o.start (parts_among at p o ranges)
  among_rise [] r = (omega arith, tt)
  among_rise (g ∷ ranges) r = elim (is_whole_needed at p o.start) as (λ b. Rise o.start
      (filter before_next (if b then begun_at o.start (g ∷ ranges) else g ∷ ranges))) [
        | true ↦ filter_rise before_next o.start (begun_at o.start (g ∷ ranges)) (begun_rise (g ∷ ranges) r)
        | false ↦ filter_rise before_next o.start (g ∷ ranges) (rise_from o.start p.first (g ∷ ranges) low r)
      ]

  pub parts_rise : Rise o.start (parts_of at p o)
  unfolding parts_of
  parts_rise = among_rise (lacking at.hand p.first o.end) (lacking_rise 0 at.hand cover.maximal p.first o.end)

  -- A part begins where what is asked for does, or in the section.
  abbrev Begins : OffsetRange → Type 0
  Begins r = (r.start ≡ o.start) ⊎ LiesInSection p r.start

  in_section : (r : OffsetRange) → p.first ≤ r.start → option_map_or (λ e. nat_lt r.start e) p.end true ≡ true
      → LiesInSection p r.start
  in_section r from t = (
    from,
    elim p.end as (λ e. option_map_or (λ d. nat_lt r.start d) e true ≡ true
        → (e ≡ None) ⊎ ((d : ℕ) × (e ≡ Some d) × (r.start < d))) [
          | None ↦ λ h. inl refl
          | Some e ↦ λ h. inr (e, refl, ltb-true r.start e h)
        ] t,
  )

  begun_in : (ranges : List OffsetRange) (r : OffsetRange) → Rise p.first ranges → In r (begun_at o.start ranges)
      → (r.start ≡ o.start) ⊎ (p.first ≤ r.start)
  begun_in [] r rise k = absurd k
  begun_in (g ∷ ranges) r rise (inl e) = inl (ap (λ (x : OffsetRange). x.start) e)
  begun_in (g ∷ ranges) r rise (inr k) = inr (rise_above p.first (g ∷ ranges) r rise (inr k))

  among_begin : (ranges : List OffsetRange) (r : OffsetRange) → Rise p.first ranges
      → In r (parts_among at p o ranges) → Begins r
  among_begin [] r rise (inl e) = inl (ap (λ (x : OffsetRange). x.start) e)
  among_begin [] r rise (inr k) = absurd k
  among_begin (g ∷ ranges) r rise k = elim (is_whole_needed at p o.start) as (λ b. In r
      (filter before_next (if b then begun_at o.start (g ∷ ranges) else g ∷ ranges)) → Begins r) [
        | true ↦ λ h.
            let s = (In-filter before_next (begun_at o.start (g ∷ ranges)) r).0 h in
            elim (begun_in (g ∷ ranges) r rise s.0) [ inl e ↦ inl e | inr from ↦ inr (in_section r from s.1) ]
        | false ↦ λ h.
            let s = (In-filter before_next (g ∷ ranges) r).0 h in
            inr (in_section r (rise_above p.first (g ∷ ranges) r rise s.0) s.1)
      ] k

  parts_begin : (r : OffsetRange) → In r (parts_of at p o) → Begins r
  unfolding parts_of
  parts_begin r k = among_begin (lacking at.hand p.first o.end) r (lacking_rise 0 at.hand cover.maximal p.first o.end) k

-- ---- and of all

module _ (at : AtHandParts) (notes : List NoteParts) where
  -- An order is a part of what is asked for of a section.
  pub record IsPart (p : Section) (o : Order) : Type 0 where
    pub whole : Order
    pub asked_is : asked_of at notes p ≡ Some whole
    pub part : OffsetRange
    pub part_in : In part (parts_of at p whole)
    pub is : part_order at whole part ≡ o

  pub is_part : (p : Section) (o : Order) → In o (orders_of at notes p) → IsPart p o
  unfolding orders_of
  is_part p o k = elim (asked_of at notes p) as (λ a. asked_of at notes p ≡ a → In o (orders_by at p a) → IsPart p o) [
    | None ↦ λ e h. absurd h
    | Some w ↦ λ e h.
        let s = (In-map (part_order at w) (parts_of at p w) o).0 h in
        record { whole = w; asked_is = e; part = s.0; part_in = s.1; is = sym s.2 }
  ] refl k

  pub whole_start : (p : Section) (o : Order) → (s : IsPart p o) → s.whole.start ≡ start_of notes p.first
  whole_start p o s = asked_start (has_end_pack notes) (claim_at notes (start_of notes p.first))
      (start_of notes p.first) _ s.whole s.asked_is

  -- Where a section begins: at a head whose key and length end at its first byte, or there.
  begins_at : (first : ℕ) → ((n : NoteParts) × In n notes × (n.offset ≡ start_of notes first) × (covered_end n ≡ first))
      ⊎ (first ≡ start_of notes first)
  begins_at first = elim (find (is_head_to first) notes) as (λ o. find (is_head_to first) notes ≡ o
      → ((n : NoteParts) × In n notes × (n.offset ≡ option_map_or (λ m. m.offset) o first) × (covered_end n ≡ first))
      ⊎ (first ≡ option_map_or (λ m. m.offset) o first)) [
        | None ↦ λ e. inr refl
        | Some n ↦ λ e.
            let k = found-In (is_head_to first) notes n e in
            inl (n, k.0, refl, eqb-true (covered_end n) first (and_parts (not n.whole) (covered_end n == first) k.1).1)
      ] refl

  module _ (content : IsContent notes) where
    not_held : (p : Section) → In p (sections_of notes) → IsHeld notes p.first → ⊥
    not_held p k =
        let are = are_sections notes content in
        (are.holes p k).none_held p.first (are.within p p.first k (are.some p k))

    not_below : (p q : Section) (n m : NoteParts) → In p (sections_of notes) → In m notes → n.offset ≡ m.offset
        → covered_end n ≡ p.first → covered_end m ≡ q.first → p.first < q.first → ⊥
    not_below p q n m k i same end other l =
        let some = covers_first n in
        not_held p k (m, i, record { from = omega (arith, same, end, some); before = omega (arith, other, l) })

    one_first : (p q : Section) → In p (sections_of notes) → In q (sections_of notes)
        → start_of notes p.first ≡ start_of notes q.first → p.first ≡ q.first
    one_first p q i j same = elim (begins_at p.first) [
      | inl n ↦ elim (begins_at q.first) [
        | inl m ↦ (
            let e = n.2 ∙ same ∙ sym m.2 in
            elim (cases_lt p.first q.first) [
              | inl l ↦ absurd (not_below p q n.0 m.0 i m.1 e n.3 m.3 l)
              | inr l ↦ elim (cases_lt q.first p.first) [
                | inl k ↦ absurd (not_below q p m.0 n.0 j n.1 (sym e) m.3 n.3 k)
                | inr k ↦ omega (arith, l, k)
              ]
            ])
        | inr b ↦ absurd (
            let e = n.2 ∙ same ∙ sym b in
            let some = covers_first n.0 in
            not_held q j (n.0, n.1, record { from = omega (arith, e); before = omega (arith, e, some) }))
      ]
      | inr a ↦ elim (begins_at q.first) [
        | inl m ↦ absurd (
            let e = m.2 ∙ sym same ∙ sym a in
            let some = covers_first m.0 in
            not_held p i (m.0, m.1, record { from = omega (arith, e); before = omega (arith, e, some) }))
        | inr b ↦ a ∙ same ∙ sym b
      ]
    ]

    -- Where an order begins: where what is asked for of its section does, or in the section.
    begins : (cover : IsCover at.hand) (p : Section) (o : Order) → IsPart p o
        → (o.start ≡ start_of notes p.first) ⊎ LiesInSection p o.start
    begins cover p o s =
        let start = whole_start p o s in
        let below = start_below notes p.first in
        let is : s.part.start ≡ o.start = ap (λ (r : Order). r.start) s.is in
        elim (parts_begin at cover p s.whole (omega (arith, start, below)) s.part s.part_in) [
          | inl e ↦ inl (sym is ∙ e ∙ start)
          | inr l ↦ inr (subst (LiesInSection p) is l)
        ]

    -- An offset of a section isn't where a packet begins of which another is the rest.
    not_start : (p q : Section) → In p (sections_of notes) → In q (sections_of notes)
        → LiesInSection q (start_of notes p.first) → p ≡ q
    not_start p q i j l =
        let are = are_sections notes content in
        elim (begins_at p.first) [
          | inl n ↦ absurd (
              let e = n.2 in
              let some = covers_first n.0 in
              (are.holes q j).none_held (start_of notes p.first) (are.within q (start_of notes p.first) j l)
              (n.0, n.1, record { from = omega (arith, e); before = omega (arith, e, some) }))
          | inr e ↦ are.apart p q p.first i j (are.some p i) (subst (LiesInSection q) (sym e) l)
        ]

    same_section : (cover : IsCover at.hand) (p q : Section) (o r : Order) → In p (sections_of notes)
        → In q (sections_of notes) → IsPart p o → IsPart q r → o.start ≡ r.start → p ≡ q
    same_section cover p q o r i j s t e =
        let are = are_sections notes content in
        elim (begins cover p o s) [
          | inl a ↦ elim (begins cover q r t) [
            | inl b ↦ (
                let first = one_first p q i j (sym a ∙ e ∙ b) in
                are.apart p q p.first i j (are.some p i) (subst (LiesInSection q) (sym first) (are.some q j)))
            | inr b ↦ not_start p q i j (subst (LiesInSection q) (sym e ∙ a) b)
          ]
          | inr a ↦ elim (begins cover q r t) [
            | inl b ↦ sym (not_start q p j i (subst (LiesInSection p) (e ∙ b) a))
            | inr b ↦ are.apart p q o.start i j a (subst (LiesInSection q) (sym e) b)
          ]
        ]

    one_part : (cover : IsCover at.hand) (p : Section) (o r : Order) → IsPart p o → IsPart p r → o.start ≡ r.start
        → o ≡ r
    one_part cover p o r s t e =
        let whole = same_Some s.whole t.whole (sym s.asked_is ∙ t.asked_is) in
        let start = whole_start p o s in
        let below = start_below notes p.first in
        let rise = parts_rise at cover p s.whole (omega (arith, start, below)) in
        let other = subst (λ w. In t.part (parts_of at p w)) (sym whole) t.part_in in
        let starts = ap (λ (x : Order). x.start) s.is ∙ e ∙ sym (ap (λ (x : Order). x.start) t.is) in
        let same = one_start s.whole.start (parts_of at p s.whole) s.part t.part rise s.part_in other starts in
        sym s.is ∙ (λ k. part_order at (whole k) (same k)) ∙ t.is

    pub one_order_there : IsCover at.hand → (o r : Order) → In o (plan_of at notes).orders
        → In r (plan_of at notes).orders → o.start ≡ r.start → o ≡ r
    one_order_there cover o r k l e =
        let p = (order_members at notes o).0 k in
        let q = (order_members at notes r).0 l in
        let s = is_part p.0 o p.2 in
        let t = is_part q.0 r q.2 in
        let same = same_section cover p.0 q.0 o r p.1 q.1 s t e in
        one_part cover q.0 o r (subst (λ x. IsPart x o) same s) t e

-- ---- where nothing is at hand

module _ (at : AtHandParts) (notes : List NoteParts) (content : IsContent notes) (p : Section)
    (k : In p (sections_of notes)) where
  -- A section without an end lies in a hole without one: the end of the file isn't known.
  unknown_end : p.end ≡ None → end_of_file notes ≡ None
  unknown_end e =
      let are = are_sections notes content in
      let hole = are.holes p k in
      let last : IsEndOfHole notes p.hole.end = hole.last in
      elim p.hole.end as (λ o. p.hole.end ≡ o → IsEndOfHole notes o → end_of_file notes ≡ None) [
        | None ↦ λ f l. l
        | Some d ↦ λ f l. elim (are.within p (max p.first d) k (omega arith, inl e)).1 [
          | inl n ↦ absurd (cc (n, f))
          | inr s ↦ (
              let same = same_Some d s.0 (sym f ∙ s.1) in
              let less = s.2 in absurd (omega (arith, same, less)))
        ]
      ] refl last

  -- What is asked for ends above the section's first byte.
  end_above : (claim : Option Claim) (e : ℕ) → end_by at notes p claim ≡ Some e → p.first < e
  end_above claim e q =
      let open_end : Bool = option_map_or (λ c. c.is_open) claim false in
      let edge = edge_of at notes in
      elim p.end as (λ o. p.end ≡ o → (o ≡ None) ⊎ ((d : ℕ) × (o ≡ Some d) × (p.first < d)) → (if is_some o then o
      else (if (nat_lt p.first (top_of notes) || nat_le (p.first + 25) edge) && not open_end
      then Some edge else None)) ≡ Some e → p.first < e) [
        | Some d ↦ λ n l h. elim l [
          | inl f ↦ absurd (cc (f))
          | inr f ↦ (let s = same_Some d f.0 f.1 in let t = same_Some d e h in let less = f.2 in
              omega (arith, s, t, less))
        ]
        | None ↦ λ n l h.
            let most : edge ≡ max (top_of notes) (runs_end at.given) =
            ap (λ o. unwrap_or o (max (top_of notes) (runs_end at.given))) (unknown_end n) in
            elim (nat_lt p.first (top_of notes)) as (λ b. nat_lt p.first (top_of notes) ≡ b
            → (if (b || nat_le (p.first + 25) edge) && not open_end then Some edge else None) ≡ Some e
            → p.first < e) [
              | true ↦ λ t f.
                  let low = ltb-true p.first (top_of notes) t in
                  elim (not open_end) as (λ c. (if c then Some edge else None) ≡ Some e → p.first < e) [
                    | true ↦ λ g. let s = same_Some edge e g in omega (arith, s, low, most)
                    | false ↦ λ g. absurd cc
                  ] f
              | false ↦ λ t f. elim (nat_le (p.first + 25) edge) as (λ b. nat_le (p.first + 25) edge ≡ b
                  → (if b && not open_end then Some edge else None) ≡ Some e → p.first < e) [
                    | true ↦ λ u g.
                        let low = leb-true (p.first + 25) edge u in
                        elim (not open_end) as (λ c. (if c then Some edge else None) ≡ Some e → p.first < e) [
                          | true ↦ λ j. let s = same_Some edge e j in omega (arith, s, low)
                          | false ↦ λ j. absurd cc
                        ] g
                    | false ↦ λ u g. absurd cc
                  ] refl f
            ] refl h
      ] refl ((are_sections notes content).some p k).1 q

  -- What is asked for is neither inside of a packet nor asked for again, and has a byte behind the section's first.
  pub record IsAsked (o : Order) : Type 0 where
    pub starts : o.start ≡ start_of notes p.first
    pub above : (e : ℕ) → o.end ≡ Some e → p.first < e
    pub inside : o.inside ≡ false
    pub again : o.again ≡ false

  asked_says : (o : Order) → asked_of at notes p ≡ Some o → IsAsked o
  asked_says o e = by (claim_at notes (start_of notes p.first)) e where
    start : ℕ
    start = start_of notes p.first

    most : ℕ → ℕ
    most e = max e (up_to_bound (needed_of notes start p.first) p.hole.end)

    by : (claim : Option Claim) → asked_by at notes p start claim ≡ Some o → IsAsked o
    by None e =
        let end = option_map most (end_by at notes p None) in
        let s = some_if (is_some end || not (has_end_pack notes)) (gap_from start end) o e in
        subst IsAsked s.1 (record {
          starts = refl;
          above = λ x f.
              let t = some_from most (end_by at notes p None) x f in
              let below = end_above None t.0 t.1 in
              let reach = t.2 in omega (arith, below, reach);
          inside = refl;
          again = refl;
        })
    by (Some c) e = subst IsAsked (same_Some _ o e) (record {
      starts = refl;
      above = λ x f.
          let s = some_from most (end_by at notes p (Some c)) x f in
          let below = end_above (Some c) s.0 s.1 in
          let reach = s.2 in omega (arith, below, reach);
      inside = refl;
      again = refl;
    })

-- ---- where nothing is at hand

pub nothing_left_out : (notes : List NoteParts) → IsContent notes → (p : Section) → In p (sections_of notes)
    → orders_of nothing_at_hand notes p ≡ option_to_list (asked_of nothing_at_hand notes p)
unfolding orders_of parts_of
nothing_left_out notes content p k =
    elim (asked_of nothing_at_hand notes p) as (λ a. asked_of nothing_at_hand notes p ≡ a
    → orders_by nothing_at_hand p a ≡ option_to_list a) [
      | None ↦ λ e. refl
      | Some o ↦ λ e. all o (asked_says nothing_at_hand notes content p k o e)
    ] refl
  where
    range : Order → OffsetRange
    range o = record { start = o.start; end = o.end }

    has_some : (start end : ℕ) → start < end → has_offsets [] start end ≡ false
    has_some start end l =
        ap (λ b. is_none (if b then record { start = start; end = Some end } ∷ [] else [])) (lt-ltb start end l)

    not_again : (o : Order) → IsAsked nothing_at_hand notes content p k o → is_again nothing_at_hand (range o) ≡ false
    not_again o a =
        let start = a.starts in
        let below = start_below notes p.first in
        elim o.end as (λ e. o.end ≡ e
        → option_map_or (λ x. has_offsets [] o.start x) e (has_offsets [] o.start (o.start + 25)) ≡ false) [
          | None ↦ λ f. has_some o.start (o.start + 25) (omega arith)
          | Some e ↦ λ f. let above = a.above e f in has_some o.start e (omega (arith, start, below, above))
        ] refl

    reaches : (o : Order) → IsAsked nothing_at_hand notes content p k o
        → option_map_or (λ e. nat_lt p.first e) o.end true ≡ true
    reaches o a = elim o.end as (λ e. o.end ≡ e → option_map_or (λ x. nat_lt p.first x) e true ≡ true) [
      | None ↦ λ f. refl
      | Some e ↦ λ f. lt-ltb p.first e (a.above e f)
    ] refl

    before : (o : Order) → IsAsked nothing_at_hand notes content p k o
        → option_map_or (λ e. nat_lt o.start e) p.end true ≡ true
    before o a =
        let start = a.starts in
        let below = start_below notes p.first in
        elim p.end as (λ e. (e ≡ None) ⊎ ((d : ℕ) × (e ≡ Some d) × (p.first < d))
        → option_map_or (λ x. nat_lt o.start x) e true ≡ true) [
          | None ↦ λ l. refl
          | Some e ↦ λ l. elim l [
            | inl n ↦ absurd (cc (n))
            | inr s ↦ (
                let same = same_Some e s.0 s.1 in
                let less = s.2 in lt-ltb o.start e (omega (arith, start, below, same, less)))
          ]
        ] ((are_sections notes content).some p k).1

    all : (o : Order) → IsAsked nothing_at_hand notes content p k o
        → map (part_order nothing_at_hand o) (parts_of nothing_at_hand p o) ≡ o ∷ []
    all o a =
        let first : OffsetRange = record { start = p.first; end = o.end } in
        let passes = λ (r : OffsetRange). option_map_or (λ e. nat_lt r.start e) p.end true in
        let left : lacking [] p.first o.end ≡ first ∷ [] = ap (λ b. if b then first ∷ [] else []) (reaches o a) in
        let whole = or_right (o.start == p.first) true refl in
        let one : parts_among nothing_at_hand p o (first ∷ []) ≡ range o ∷ [] =
        ap (λ b. filter passes (if b then range o ∷ [] else first ∷ [])) whole
        ∙ ap (λ b. cond b (range o ∷ []) []) (before o a) in
        let inside : not (o.start == o.start) ≡ o.inside =
        ap not (eq-eqb o.start o.start refl) ∙ sym a.inside in
        let again = not_again o a ∙ sym a.again in
        ap (λ rs. map (part_order nothing_at_hand o) (parts_among nothing_at_hand p o rs)) left
        ∙ ap (map (part_order nothing_at_hand o)) one
        ∙ (λ i. record {
          reason = o.reason;
          start = o.start;
          end = o.end;
          source = o.source;
          inside = inside i;
          again = again i;
        } ∷ [])
