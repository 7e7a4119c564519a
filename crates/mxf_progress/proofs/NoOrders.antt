-- Where nothing is ordered.
use Rattle.mxf_views.proofs.Common.{◌≡◌, ◌↔◌, ◌⊎◌, ◌∙◌, ◌<◌, ◌≤◌, ◌+◌, ◌&&◌, ◌||◌, ◌==◌, ℕ, Bool, true, false, IsTrue}
use Rattle.mxf_views.proofs.Common.{List, [], ◌∷◌, Option, None, Some, max, not, is_some, nat_le, nat_lt, option_map}
use Rattle.mxf_views.proofs.Common.{option_map_or, unwrap_or, if◌then◌else◌, refl, sym, ap, subst, inl, inr, arith}
use Rattle.mxf_views.proofs.Common.{cases_Bool, cases_lt, not_equal, lt-ltb, le-leb, same_Some, or_left, or_right}
use Rattle.mxf_views.proofs.Common.{NoteParts, end_of, In, IsContent}
use Rattle.mxf_places.specs.AtHand.{AreAtHand, AtHandParts, LiesInRange, edge_of, lacking, runs_end, up_to_bound}
use Rattle.mxf_places.specs.Claims.{claim_at}
use Rattle.mxf_places.specs.FirstClaims.{SpeaksOf}
use Rattle.mxf_places.specs.Heads.{needed_of, start_of}
use Rattle.mxf_places.specs.Held.{IsHeld, end_of_file, top_of}
use Rattle.mxf_places.specs.declared.at_hand.OffsetRange.{OffsetRange}
use Rattle.mxf_places.specs.declared.claim.Claim.{Claim}
use Rattle.mxf_places.proofs.AtHandLaws.{Rise, bound_le, has_offsets-says, lacked_is, lacking_rise, members, rise_above}
use Rattle.mxf_places.proofs.EdgeLaws.{edge_says}
use Rattle.mxf_places.proofs.EndLaws.{end_says}
use Rattle.mxf_places.proofs.FirstLaws.{none_speaks}
use Rattle.mxf_places.proofs.HeldLaws.{top_of-bound}
use Rattle.mxf_restore.specs.Orders.{IsAsked, IsAskedEnd, IsFirstLacking, IsLackingIn, IsPart, IsStartOf}
use Rattle.mxf_restore.specs.Orders.{IsWholeNeeded, ReachesUpTo, WasHandedIn}
use Rattle.mxf_restore.specs.EndPacks.{HasEndPack, has_end_pack}
use Rattle.mxf_restore.specs.Plan.{asked, asked_by, asked_of, end_by, gap_from, is_again, plan_of}
use Rattle.mxf_restore.specs.Sections.{IsEndOfHole, IsHole, LiesInSection, sections_of}
use Rattle.mxf_restore.specs.declared.section.Section.{Section}
use Rattle.mxf_restore.specs.declared.plan.Order.{Order}
use Rattle.mxf_restore.proofs.AskedLaws.{asked_law}
use Rattle.mxf_restore.proofs.EndPackLaws.{end_pack_says}
use Rattle.mxf_restore.proofs.PartLaws.{plan_orders_say}
use Rattle.mxf_restore.proofs.PlanMembers.{gap_ordered}
use Rattle.mxf_restore.proofs.SectionCover.{are_sections}
use Rattle.mxf_restore.proofs.StartLaws.{one_start_of, start_is}
use Rattle.mxf_progress.specs.Progress.{IsBeyondAll}
use Rattle.mxf_progress.proofs.OrderLaws.{lies_or_not, start_le}

equal_or_not : (a b : ℕ) → (a ≡ b) ⊎ (a ≡ b → ⊥)
equal_or_not a b = elim (cases_lt a b) [
  | inl l ↦ inr (λ e. omega (arith, e, l))
  | inr l ↦ elim (cases_lt b a) [ inl m ↦ inr (λ e. omega (arith, e, m)) | inr m ↦ inl (omega (arith, l, m)) ]
]

no_members : {K : Type 0} (xs : List K) → ((x : K) → In x xs → ⊥) → xs ≡ []
no_members [] none = refl
no_members (x ∷ xs) none = absurd (none x (inl refl))

member_of_none : {K : Type 0} (xs : List K) (x : K) → xs ≡ [] → In x xs → ⊥
member_of_none {K} xs x e k = subst (λ (ys : List K). In x ys) e k

module _ (at : AtHandParts) (notes : List NoteParts) (content : IsContent notes) (hand : AreAtHand at) where
  whole_or_not : (p : Section) (start : ℕ) → IsWholeNeeded at p start ⊎ (IsWholeNeeded at p start → ⊥)
  whole_or_not p start = elim (equal_or_not start p.first) [
    | inl e ↦ inl (inl e)
    | inr apart ↦ elim (lies_or_not at.hand p.first) [
      | inl h ↦ inr (λ w. elim w [ inl e ↦ apart e | inr free ↦ free h ])
      | inr free ↦ inl (inr free)
    ]
  ]

  again_says : (start : ℕ) (end : Option ℕ)
      → IsTrue (is_again at (record { start = start; end = end })) ↔ WasHandedIn at start end
  again_says start None = has_offsets-says at.hand start (start + 25) hand.hand
  again_says start (Some e) = has_offsets-says at.given start e hand.given

  module _ (empty : (plan_of at notes).orders ≡ []) (p : Section) (i : In p (sections_of notes)) where
    -- Of a section of which nothing is ordered no part is asked for.
    no_part : (a : Order) → IsAsked at notes p a → (start : ℕ) (end : Option ℕ) → IsPart at p a start end → ⊥
    no_part a is start end part =
        let again = is_again at (record { start = start; end = end }) in
        let o : Order = record {
          reason = a.reason;
          start = start;
          end = end;
          source = a.source;
          inside = not (start == a.start);
          again = again;
        } in
        member_of_none (plan_of at notes).orders o empty ((plan_orders_say at notes content hand.given hand.hand o).1 (
          p,
          i,
          record {
            asked = a;
            is_asked = is;
            part = part;
            reason = refl;
            source = refl;
            inside = not_equal start a.start;
            again = again_says start end;
          },
        ))

    -- Nothing is asked for of it.
    first_lacking : (a : Order) (g : OffsetRange) (gs : List OffsetRange) → lacking at.hand p.first a.end ≡ g ∷ gs
        → IsFirstLacking at p a g
    first_lacking a g gs e = (
      lacked_is 0 at.hand hand.hand.maximal p.first a.end g (subst (λ all. In g all) (sym e) (inl refl)),
      λ q l. elim (subst (λ all. In q all) e ((members at.hand p.first a.end q hand.hand).1 l)) [
        | inl same ↦ (let start = ap (λ (y : OffsetRange). y.start) same in omega (arith, start))
        | inr k ↦ (
            let rise = subst (Rise p.first) e (lacking_rise 0 at.hand hand.hand.maximal p.first a.end) in
            let above = rise_above (g.start + 1) gs q rise.1 k in omega (arith, above))
      ],
    )

    in_hole_above : (x : ℕ) → p.first ≤ x → ((e : ℕ) → p.hole.end ≡ Some e → x < e) → IsHeld notes x → ⊥
    in_hole_above x low high h =
        let are = are_sections notes content in
        let from = (are.within p p.first i (are.some p i)).0 in
        (are.holes p i).none_held x (
          omega (arith, low, from),
          elim p.hole.end as (λ d. p.hole.end ≡ d → (d ≡ None) ⊎ ((e : ℕ) × (d ≡ Some e) × (x < e))) [
            | None ↦ λ e. inl refl
            | Some d ↦ λ e. inr (d, refl, high d e)
          ] refl,
        ) h

    below_edge : (x : ℕ) (n : NoteParts) → In n notes → x < end_of n → ((e : ℕ) → p.hole.end ≡ Some e → x < e)
        → p.first ≤ x → x < edge_of at notes
    below_edge x n k l high low = elim (end_of_file notes) as (λ o. end_of_file notes ≡ o
        → x < unwrap_or o (max (top_of notes) (runs_end at.given))) [
          | None ↦ λ e. (let top = (top_of-bound notes (top_of notes)).0 (omega arith) n k in omega (arith, top, l))
          | Some end ↦ λ e.
              let last = ((end_says notes end).0 e).last in
              let is = (are_sections notes content).holes p i in
              elim p.hole.end as (λ d. p.hole.end ≡ d → IsEndOfHole notes d → x < end) [
                | None ↦ λ f unknown. absurd (cc (e, unknown))
                | Some d ↦ λ f held. elim (cases_lt d end) [
                  | inl below ↦ (let less = high d f in omega (arith, less, below))
                  | inr above ↦ absurd (last d above held)
                ]
              ] refl is.last
        ] refl

    -- A range that lacks behind the section lies in the packet of a head, and so in a gap.
    behind : (a : Order) → IsAsked at notes p a → (g : OffsetRange) → IsLackingIn at p a g → (bound : ℕ)
        → p.end ≡ Some bound → bound ≤ g.start → ⊥
    behind a is g l bound ends above = elim a.end as (λ d. a.end ≡ d → ⊥) [
      | None ↦ λ e.
          let end = subst (λ (d : Option ℕ). IsAskedEnd at notes p a.start d) e is.end in
          let endless = end.0 in cc (ends, endless)
      | Some d ↦ λ e.
          let up = subst (λ (d : Option ℕ). IsAskedEnd at notes p a.start d) e is.end in
          let section : up.section_end ≡ bound = elim up.is_section_end [
            | inl same ↦ sym (same_Some bound up.section_end (sym ends ∙ same))
            | inr endless ↦ (let none = endless.0 in absurd (cc (ends, none)))
          ] in
          let less : g.start < d = elim (l.between g.start l.some).1 [
            | inl none ↦ absurd (cc (e, none))
            | inr s ↦ (let same = same_Some d s.0 (sym e ∙ s.1) in let below = s.2 in omega (arith, same, below))
          ] in
          elim up.reached [
            | inl same ↦ omega (arith, same, section, less, above)
            | inr s ↦ (
                let n = s.0 in
                let packet = s.2 in
                let most = bound_le (end_of n) p.hole.end in
                let low = (l.between g.start l.some).0 in
                let high : (e : ℕ) → p.hole.end ≡ Some e → g.start < e = λ e f. (
                let within = ap (up_to_bound (end_of n)) f in omega (arith, within, packet, less)) in
                let free = in_hole_above g.start low high in
                let edge = below_edge g.start n s.1.held (omega (arith, packet, most, less)) high low in
                elim (gap_ordered at notes g.start content (record {
                  below = (n, s.1.held, omega (arith, packet, most, less));
                  in_none = λ m k w. free (m, k, w);
                }) edge) [
                  | inl h ↦ l.none g.start l.some h
                  | inr o ↦ member_of_none (plan_of at notes).orders o.0 empty o.1
                ])
          ]
    ] refl

    pub nothing_asked : (a : Order) → IsAsked at notes p a → ⊥
    nothing_asked a is = elim (lacking at.hand p.first a.end) as (λ gs. lacking at.hand p.first a.end ≡ gs → ⊥) [
      | [] ↦ λ e. no_part a is a.start a.end (inl (
        λ r l. member_of_none (lacking at.hand p.first a.end) r e ((members at.hand p.first a.end r hand.hand).1 l),
        refl,
        refl,
      ))
      | (g ∷ gs) ↦ λ e.
          let first = first_lacking a g gs e in
          let low = start_le at notes content hand p a.start is.start in
          elim (whole_or_not p a.start) [
            | inl whole ↦ no_part a is a.start g.end (inr (
              g,
              first.0,
              refl,
              inl (first, whole, refl),
              λ bound ends.
                  elim ((are_sections notes content).some p i).1 [
                    | inl endless ↦ absurd (cc (ends, endless))
                    | inr s ↦ (
                        let same = same_Some bound s.0 (sym ends ∙ s.1) in
                        let less = s.2 in omega (arith, same, less, low))
                  ],
            ))
            | inr part ↦ no_part a is g.start g.end (inr (
              g,
              first.0,
              refl,
              inr (λ w. part w.1, refl),
              λ bound ends.
                  elim (cases_lt g.start bound) [
                    | inl below ↦ below
                    | inr above ↦ absurd (behind a is g first.0 bound ends above)
                  ],
            ))
          ]
    ] refl

  pub no_orders_say : ((plan_of at notes).orders ≡ [])
      ↔ ((p : Section) (o : Order) → In p (sections_of notes) → IsAsked at notes p o → ⊥)
  no_orders_say = (
    λ empty p o i. nothing_asked empty p i o,
    λ none. no_members (plan_of at notes).orders (λ o k.
        let s = (plan_orders_say at notes content hand.given hand.hand o).0 k in
        none s.0 s.2.asked s.1 s.2.is_asked),
  )

  -- ---- the same of holes

  -- Something is asked for of a section where the function says so.
  asked_for : (p : Section) → ((o : Order) → IsAsked at notes p o → ⊥) → (a : Order) → asked_of at notes p ≡ Some a → ⊥
  asked_for p none a e = none a ((asked_law at notes content hand.given p a).0 e)

  some_asked : (p : Section) (start : ℕ) (claim : Option Claim) (end : ℕ) → end_by at notes p claim ≡ Some end
      → (a : Order) × (asked_by at notes p start claim ≡ Some a)
  some_asked p start None end e =
      let most = λ (d : ℕ). max d (up_to_bound (needed_of notes start p.first) p.hole.end) in
      (_, ap (λ d. asked (has_end_pack notes) None start (option_map most d)) e)
  some_asked p start (Some c) end e = (_, refl)

  asks_with_end : (p : Section) → ((o : Order) → IsAsked at notes p o → ⊥) → (end : ℕ)
      → end_by at notes p (claim_at notes (start_of notes p.first)) ≡ Some end → ⊥
  asks_with_end p none end e =
      let s = some_asked p (start_of notes p.first) (claim_at notes (start_of notes p.first)) end e in
      asked_for p none s.0 s.1

  -- A section of which nothing is asked for has no end.
  no_end : (p : Section) → ((o : Order) → IsAsked at notes p o → ⊥) → p.end ≡ None
  no_end p none = elim p.end as (λ d. p.end ≡ d → d ≡ None) [
    | None ↦ λ e. refl
    | Some d ↦ λ e. absurd (asks_with_end p none d (ap (λ o. if is_some o then o
        else (if (nat_lt p.first (top_of notes) || nat_le (p.first + 25) (edge_of at notes))
        && not (option_map_or (λ c. c.is_open) (claim_at notes (start_of notes p.first)) false)
        then Some (edge_of at notes) else None)) e))
  ] refl

  no_claim : (p : Section) → ((o : Order) → IsAsked at notes p o → ⊥) → claim_at notes (start_of notes p.first) ≡ None
  no_claim p none = elim (claim_at notes (start_of notes p.first))
      as (λ d. claim_at notes (start_of notes p.first) ≡ d → d ≡ None) [
        | None ↦ λ e. refl
        | Some c ↦ λ e. absurd (asked_for p none _ (ap (asked_by at notes p (start_of notes p.first)) e))
      ] refl

  no_edge : (p : Section) → ((o : Order) → IsAsked at notes p o → ⊥) → (edge : ℕ)
      → ReachesUpTo at notes p.first (start_of notes p.first) edge → ⊥
  no_edge p none edge r =
      let low = nat_lt p.first (top_of notes) in
      let far = nat_le (p.first + 25) (edge_of at notes) in
      let same = (edge_says at notes edge hand.given).1 r.is_edge in
      let reaches : (low || far) ≡ true = elim r.far [
        | inl n ↦ or_left low far (lt-ltb p.first (top_of notes)
            (let top = (top_of-bound notes (top_of notes)).0 (omega arith) n.0 n.1 in
            let less = n.2 in omega (arith, top, less)))
        | inr f ↦ or_right low far (le-leb (p.first + 25) (edge_of at notes) (omega (arith, f, same)))
      ] in
      let end : Option ℕ → Option Claim → Bool → Option ℕ = λ d c b. if is_some d then d
      else (if b && not (option_map_or (λ c. c.is_open) c false) then Some (edge_of at notes) else None) in
      asks_with_end p none (edge_of at notes) (λ i. end (no_end p none i) (no_claim p none i) (reaches i))

  -- Where nothing is asked for, a pack is held that stands at the end of a file alone.
  end_pack : (p : Section) → ((o : Order) → IsAsked at notes p o → ⊥) → HasEndPack notes
  end_pack p none = elim (cases_Bool (has_end_pack notes)) [
    | inl t ↦ (end_pack_says notes content).0 t
    | inr f ↦ absurd (
        let start = start_of notes p.first in
        let end = option_map (λ (d : ℕ). max d (up_to_bound (needed_of notes start p.first) p.hole.end))
        (end_by at notes p None) in
        let known = or_right (is_some end) (not (has_end_pack notes)) (ap not f) in
        asked_for p none (gap_from start end) (ap (asked_by at notes p start) (no_claim p none)
        ∙ ap (λ b. if b then Some (gap_from start end) else None) known))
  ]

  module _ (h : OffsetRange) (is : IsHole notes h) where
    -- The first section of the hole.
    first_section : (p : Section) × In p (sections_of notes) × (p.hole ≡ h) × LiesInSection p h.start
    first_section = (are_sections notes content).cover h h.start is is.some

    begins_hole : (p : Section) → In p (sections_of notes) → p.hole ≡ h → h.start ≤ p.first
    begins_hole p i e =
        let are = are_sections notes content in
        let from = (are.within p p.first i (are.some p i)).0 in
        let start = ap (λ (r : OffsetRange). r.start) e in omega (arith, from, start)

    -- A section without an end is the last.
    none_later : (p q : Section) → In p (sections_of notes) → In q (sections_of notes) → p.end ≡ None
        → p.first < q.first → ⊥
    none_later p q i j endless above =
        let are = are_sections notes content in
        let one : p ≡ q = are.apart p q q.first i j (omega (arith, above), inl endless) (are.some q j) in
        let same : p.first ≡ q.first = ap (λ (r : Section). r.first) one in omega (arith, same, above)

    beyond : ((p : Section) (o : Order) → In p (sections_of notes) → IsAsked at notes p o → ⊥)
        → IsBeyondAll at notes h
    beyond none =
        let are = are_sections notes content in
        let s = first_section in
        let p = s.0 in
        let i = s.1 in
        let nothing = λ (o : Order) (a : IsAsked at notes p o). none p o i a in
        let endless = no_end p nothing in
        let low = s.3.0 in
        let high = begins_hole p i s.2 in
        let first : p.first ≡ h.start = omega (arith, low, high) in
        let no_end_of_hole : h.end ≡ None = elim h.end as (λ d. h.end ≡ d → d ≡ None) [
          | None ↦ λ e. refl
          | Some d ↦ λ e. absurd (
              let within = are.within p (max p.first d) i (omega arith, inl endless) in
              elim (subst (λ (r : OffsetRange). LiesInRange r (max p.first d)) s.2 within).1 [
                | inl f ↦ cc (e, f)
                | inr t ↦ (let same = same_Some d t.0 (sym e ∙ t.1) in let less = t.2 in omega (arith, same, less))
              ])
        ] refl in
        record {
          endless = no_end_of_hole;
          uncut = λ x above cut.
              let q = are.cut h x is (omega (arith, above), inl no_end_of_hole) cut in
              none_later p q.0 i q.1 endless (let begins = q.2 in omega (arith, begins, above, first));
          start = start_of notes h.start;
          is_start = start_is notes content h.start;
          unclaimed = (none_speaks notes (start_of notes h.start) content).0
              (subst (λ f. claim_at notes (start_of notes f) ≡ None) first (no_claim p nothing));
          unreached = λ edge r. no_edge p nothing edge
              (subst (λ f. ReachesUpTo at notes f (start_of notes f) edge) (sym first) r);
          ended = end_pack p nothing;
        }

    -- Nothing is asked for of the sections of a hole where nothing says that a byte lies in it.
    nothing_beyond : IsBeyondAll at notes h → (p : Section) → In p (sections_of notes) → p.hole ≡ h → (o : Order)
        → IsAsked at notes p o → ⊥
    nothing_beyond b p i e o a =
        let are = are_sections notes content in
        let first = at_start p i e in
        let start : o.start ≡ b.start = one_start_of notes p.first o.start b.start a.start
        (subst (λ f. IsStartOf notes f b.start) (sym first) b.is_start) in
        elim a.said [
          | inl c ↦ b.unclaimed c.0 c.1.claim (subst (SpeaksOf c.0) start c.1.speaks)
          | inr gap ↦ elim o.end as (λ d. o.end ≡ d → ⊥) [
            | None ↦ λ f. elim (a.known gap.1) [
              | inl some ↦ absurd (cc (f, some))
              | inr unended ↦ unended b.ended
            ]
            | Some d ↦ λ f.
                let up = subst (λ (d : Option ℕ). IsAskedEnd at notes p o.start d) f a.end in
                elim up.is_section_end [
                  | inl ends ↦ (
                      let some = are.some p i in
                      let less : p.first < up.section_end = below_end p.end up.section_end p.first ends some.1 in
                      let q = are.cover h up.section_end is (omega (arith, less, first), inl b.endless) in
                      let same = at_start q.0 q.1 q.2 in
                      let one = are.apart q.0 p q.0.first q.1 i (are.some q.0 q.1)
                      (omega (arith, same, first), inr (up.section_end, ends, omega (arith, same, first, less))) in
                      elim (subst (λ (r : Section). LiesInSection r up.section_end) one q.3).1 [
                        | inl none ↦ cc (none, ends)
                        | inr t ↦ (
                            let d = same_Some up.section_end t.0 (sym ends ∙ t.1) in
                            let below = t.2 in omega (arith, d, below))
                      ])
                  | inr reaches ↦ b.unreached up.section_end
                      (subst (λ s. ReachesUpTo at notes h.start s up.section_end) start
                      (subst (λ f. ReachesUpTo at notes f o.start up.section_end) first reaches.1))
                ]
          ] refl
        ]
      where
        below_end : (end : Option ℕ) (d x : ℕ) → end ≡ Some d
            → ((end ≡ None) ⊎ ((e : ℕ) × (end ≡ Some e) × (x < e))) → x < d
        below_end end d x e (inl none) = absurd (cc (e, none))
        below_end end d x e (inr s) =
            let same = same_Some d s.0 (sym e ∙ s.1) in
            let less = s.2 in omega (arith, same, less)

        at_start : (q : Section) → In q (sections_of notes) → q.hole ≡ h → q.first ≡ h.start
        at_start q j f = elim ((are_sections notes content).begins q j) [
          | inl same ↦ same ∙ ap (λ (r : OffsetRange). r.start) f
          | inr cut ↦ (
              let from = begins_hole q j f in
              elim (cases_lt h.start q.first) [
                | inl above ↦ absurd (b.uncut q.first above cut)
                | inr below ↦ omega (arith, from, below)
              ])
        ]

  pub no_orders_by_holes : ((plan_of at notes).orders ≡ [])
      ↔ ((h : OffsetRange) → IsHole notes h → IsBeyondAll at notes h)
  no_orders_by_holes = (
    λ empty h is. beyond h is (no_orders_say.0 empty),
    λ all. no_orders_say.1 (λ p o i a.
        let is = (are_sections notes content).holes p i in nothing_beyond p.hole is (all p.hole is) p i refl o a),
  )
