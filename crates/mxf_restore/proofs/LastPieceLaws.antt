-- Where the last piece of a file is ordered.
use Rattle.mxf_views.proofs.Common.{◌≡◌, ◌↔◌, ◌∙◌, ℕ, Bool, true, false, nat_lt, max, List, [], ◌∷◌, None, Some}
use Rattle.mxf_views.proofs.Common.{if◌then◌else◌, option_map_or, refl, sym, ap, subst, inl, inr, NoteParts, In}
use Rattle.mxf_views.proofs.Common.{In-append, In-filter, In-map, IsContent, IsCover}
use Rattle.mxf_catalogue.specs.declared.run.Run.{Run}
use Rattle.mxf_places.specs.AtHand.{AtHandParts, lacking, some_range, up_to_bound}
use Rattle.mxf_places.specs.declared.at_hand.OffsetRange.{OffsetRange}
use Rattle.mxf_places.specs.declared.reason.Reason.TheVariants.{Gap}
use Rattle.mxf_restore.specs.EndPacks.{HasEndPack}
use Rattle.mxf_restore.specs.Orders.{IsAskedEnd, IsLastPiece, IsOrder}
use Rattle.mxf_restore.specs.Plan.{asked_of, begun_at, gap_from, is_whole_needed, orders_by, orders_of, part_order}
use Rattle.mxf_restore.specs.Plan.{parts_among, parts_of, plan_of}
use Rattle.mxf_restore.specs.declared.section.Section.{Section}
use Rattle.mxf_restore.specs.declared.plan.Order.{Order}
use Rattle.mxf_restore.proofs.AskedLaws.{asked_law, never_gap}
use Rattle.mxf_restore.proofs.PartLaws.{plan_orders_say}
use Rattle.mxf_restore.proofs.PlanMembers.{order_members}

-- Of what lacks from an offset on, all from another one on lacks.
last_lacking : (runs : List Run) (start : ℕ) → (g : OffsetRange) × In g (lacking runs start None) × (g.end ≡ None)
last_lacking [] start = (record { start = start; end = None }, inl refl, refl)
last_lacking (r ∷ runs) start =
    let s = last_lacking runs (max start r.end) in (
      s.0,
      (In-append s.0 (some_range start (Some (up_to_bound r.start None))) (lacking runs (max start r.end) None)).1
          (inr s.1),
      s.2,
    )

module _ (at : AtHandParts) (p : Section) (o : Order) (endless : p.end ≡ None) where
  begun : (ranges : List OffsetRange) (g : OffsetRange) → In g ranges → g.end ≡ None
      → (r : OffsetRange) × In r (begun_at o.start ranges) × (r.end ≡ None)
  begun [] g k e = absurd k
  begun (h ∷ ranges) g (inl same) e =
      (record { start = o.start; end = h.end }, inl refl, ap (λ (r : OffsetRange). r.end) (sym same) ∙ e)
  begun (h ∷ ranges) g (inr k) e = (g, inr k, e)

  chosen : (b : Bool) (ranges : List OffsetRange) (g : OffsetRange) → In g ranges → g.end ≡ None
      → (r : OffsetRange) × In r (if b then begun_at o.start ranges else ranges) × (r.end ≡ None)
  chosen true ranges g k e = begun ranges g k e
  chosen false ranges g k e = (g, k, e)

  among : (ranges : List OffsetRange) (g : OffsetRange) → In g ranges → g.end ≡ None
      → (r : OffsetRange) × In r (parts_among at p o ranges) × (r.end ≡ None)
  among [] g k e = absurd k
  among (h ∷ ranges) g k e =
      let b = is_whole_needed at p o.start in
      let s = chosen b (h ∷ ranges) g k e in (
        s.0,
        (In-filter (λ r. option_map_or (λ e. nat_lt r.start e) p.end true)
            (if b then begun_at o.start (h ∷ ranges) else h ∷ ranges) s.0).1
            (s.1, ap (λ d. option_map_or (λ e. nat_lt s.0.start e) d true) endless),
        s.2,
      )

  -- A part of what is asked for without an end has none.
  last_part : o.end ≡ None → (r : OffsetRange) × In r (parts_of at p o) × (r.end ≡ None)
  unfolding parts_of
  last_part e =
      let g = last_lacking at.hand p.first in
      among (lacking at.hand p.first o.end) g.0
      (subst (λ d. In g.0 (lacking at.hand p.first d)) (sym e) g.1) g.2

module _ (at : AtHandParts) (notes : List NoteParts) where
  -- Of a part that has no end what is asked for has none.
  asked_open : (p : Section) (o : Order) (f : IsOrder at notes p o) → o.end ≡ None → f.asked.end ≡ None
  asked_open p o f e = elim f.part [
    | inl all ↦ sym all.2 ∙ e
    | inr s ↦ elim s.1.last [
      | inl last ↦ sym last ∙ sym s.2 ∙ e
      | inr bound ↦ absurd (let end = s.2 in let some = bound.1 in cc (e, end, some))
    ]
  ]

  part_ordered : (p : Section) (a : Order) (r : OffsetRange) → asked_of at notes p ≡ Some a → In r (parts_of at p a)
      → In (part_order at a r) (orders_of at notes p)
  unfolding orders_of
  part_ordered p a r e k =
      subst (λ w. In (part_order at a r) (orders_by at p w)) (sym e)
      ((In-map (part_order at a) (parts_of at p a) (part_order at a r)).1 (r, k, refl))

  pub last_pieces : IsContent notes → IsCover at.given → IsCover at.hand
      → ((o : Order) × In o (plan_of at notes).orders × (o.reason ≡ Gap) × (o.end ≡ None))
      ↔ ((p : Section) × IsLastPiece at notes p × (HasEndPack notes → ⊥))
  last_pieces content given hand = (
    λ s.
        let m = (plan_orders_say at notes content given hand s.0).0 s.1 in
        let f = m.2 in
        let a = f.is_asked in
        let end = asked_open m.0 s.0 f s.3 in
        let gap : f.asked.reason ≡ Gap = sym f.reason ∙ s.2 in
        let open_end = subst (λ d. IsAskedEnd at notes m.0 f.asked.start d) end a.end in (
          m.0,
          record {
            held = m.1;
            endless = open_end.0;
            start = f.asked.start;
            is_start = a.start;
            unclaimed = elim a.said [
              | inl c ↦ absurd (never_gap at notes content c.0 c.1.claim (sym c.2 ∙ gap))
              | inr none ↦ none.0
            ];
            unreached = open_end.1;
          },
          elim (a.known gap) [ inl some ↦ absurd (cc (some, end)) | inr unended ↦ unended ],
        ),
    λ s.
        let p = s.0 in
        let l = s.1 in
        let a : Order = gap_from l.start None in
        let e = (asked_law at notes content given p a).1 (record {
          start = l.is_start;
          said = inr (l.unclaimed, refl, refl);
          end = (l.endless, l.unreached);
          known = λ g. inr s.2;
          from_start = refl;
          new = refl;
        }) in
        let r = last_part at p a l.endless refl in
        let o = part_order at a r.0 in
        (o, (order_members at notes o).1 (p, l.held, part_ordered p a r.0 e r.1), refl, r.2),
  )
