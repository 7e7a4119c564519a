-- Each byte of a gap below the edge lies in an order.
use Rattle.mxf_views.proofs.Common.{◌≡◌, ◌⊎◌, ◌+◌, ◌-◌, ◌<◌, ◌≤◌, ◌&&◌, ◌||◌, ◌==◌, ℕ, Bool, true, false, not, max}
use Rattle.mxf_views.proofs.Common.{nat_le, nat_lt, [], ◌∷◌, subst, sym, List, Option, None, Some, find, is_some}
use Rattle.mxf_views.proofs.Common.{option_and_then, option_map, if◌then◌else◌, refl, ap, inl, inr, arith, lt-ltb}
use Rattle.mxf_views.proofs.Common.{unwrap_or, eqb-true, and_parts, cases_lt, same_Some, option_map_or, NoteParts}
use Rattle.mxf_views.proofs.Common.{covered_end, end_of, In, In-filter, In-flat_map, In-map, found-In, IsContent}
use Rattle.mxf_views.proofs.Common.{clear_notes, IsWithin, In-clear_notes, covers_below_end, covers_first, IsGap}
use Rattle.mxf_views.proofs.Common.{gaps_of, rip_view_of, LiesIn}
use Rattle.mxf_catalogue.specs.declared.run.Run.{Run}
use Rattle.mxf_views.specs.declared.random_index.RipView.{RipView}
use Rattle.mxf_views.specs.declared.random_index.RipView.TheVariants.{Absent, Several, Unreadable, One}
use Rattle.mxf_places.specs.AtHand.{AtHandParts, LiesInRange, edge_of, lacking, runs_end, up_to_bound}
use Rattle.mxf_places.specs.Held.{IsHeld, end_of_file, held_end, reaches_past, rip_end_by, top_of}
use Rattle.mxf_places.specs.Claims.{claim_at}
use Rattle.mxf_restore.specs.Sections.{IsHole, LiesInSection, sections_of}
use Rattle.mxf_restore.specs.EndPacks.{has_end_pack}
use Rattle.mxf_restore.specs.Plan.{LiesInOrder, asked, asked_by, begun_at, end_by, found_orders, gap_from}
use Rattle.mxf_restore.specs.Plan.{is_whole_needed, orders_by, orders_of, part_order, parts_among, parts_of}
use Rattle.mxf_places.specs.Heads.{is_head_to, needed_of, start_of}
use Rattle.mxf_places.specs.declared.claim.Claim.{Claim}
use Rattle.mxf_places.specs.declared.at_hand.OffsetRange.{OffsetRange}
use Rattle.mxf_restore.specs.declared.section.Section.{Section}
use Rattle.mxf_restore.specs.declared.plan.Order.{Order}
use Rattle.mxf_places.proofs.AtHandLaws.{lacked_there}
use Rattle.mxf_places.proofs.HeldLaws.{held_end-bound, is_held-says, top_of-bound}
use Rattle.mxf_restore.proofs.HoleLaws.{apart, closed_is, gap_there, held_or_not, last_held, maximal, open_is}
use Rattle.mxf_restore.proofs.HoleLaws.{run_there}
use Rattle.mxf_restore.proofs.SectionCover.{are_sections}

-- ---- the end of the file is held

module _ (notes : List NoteParts) where
  rip_end_held : (v : RipView) (end : ℕ) → rip_end_by notes v ≡ Some end → end ≤ held_end notes
  rip_end_held Absent end e = absurd cc
  rip_end_held Several end e = absurd cc
  rip_end_held (Unreadable offset) end e = absurd cc
  rip_end_held (One r) end e = elim (find (λ n. n.offset == r.offset) (clear_notes notes))
      as (λ o. find (λ n. n.offset == r.offset) (clear_notes notes) ≡ o → option_map end_of o ≡ Some end
      → end ≤ held_end notes) [
        | None ↦ λ f g. absurd cc
        | Some n ↦ λ f g.
            let k = (found-In (λ n. n.offset == r.offset) (clear_notes notes) n f).0 in
            let clear = (In-clear_notes n notes).0 k in
            let whole : covered_end n ≡ end_of n =
            ap (λ b. if b then end_of n else n.offset + 16 + n.width) clear.whole in
            let top = (held_end-bound notes (held_end notes)).0 (omega arith) n clear.held in
            let same = same_Some (end_of n) end g in omega (arith, whole, top, same)
      ] refl e

  end_held : (end : ℕ) → end_of_file notes ≡ Some end → end ≤ held_end notes
  unfolding end_of_file
  end_held end e = elim (rip_end_by notes (rip_view_of notes)) as (λ o. rip_end_by notes (rip_view_of notes) ≡ o
      → option_and_then (λ x. if reaches_past x notes then None else Some x) o ≡ Some end → end ≤ held_end notes) [
        | None ↦ λ f g. absurd cc
        | Some x ↦ λ f g. elim (reaches_past x notes)
            as (λ b. (if b then None else Some x) ≡ Some end → end ≤ held_end notes) [
              | true ↦ λ h. absurd cc
              | false ↦ λ h.
                  let same = same_Some x end h in
                  let l = rip_end_held (rip_view_of notes) x f in omega (arith, same, l)
            ] g
      ] refl e

  -- ---- a byte of a gap below the edge lies in a hole

  -- Where the run of a gap ends at no packet, nothing is held above it.
  above_all : IsContent notes → (r : Run) (x : ℕ) → In r (gaps_of notes) → IsWithin r x → (IsHeld notes r.end → ⊥)
      → held_end notes ≤ x
  above_all content r x k w free = elim (cases_lt x (held_end notes)) [
    | inr l ↦ l
    | inl l ↦ absurd (
        let from : r.start ≤ x = w.from in
        let before : x + 1 ≤ r.end = w.before in
        let last = last_held notes (held_end notes - 1) (omega (arith, l)) in
        elim (cases_lt (held_end notes - 1) r.end) [
          | inl m ↦ (gap_there notes content r (held_end notes - 1) k
              (record { from = omega (arith, from, l); before = omega (arith, m, l) })).in_none last.0 last.1 last.2
          | inr m ↦ (
              let o : last.0.offset ≤ held_end notes - 1 = last.2.from in
              let c : held_end notes - 1 + 1 ≤ covered_end last.0 = last.2.before in
              let d = covers_below_end last.0 in
              let s = run_there notes content r.end (record {
                below = (last.0, last.1, omega (arith, m, c, d));
                in_none = λ n i v. free (n, i, v);
              }) in
              let sf : s.0.start ≤ r.end = s.2.from in
              let sb : r.end + 1 ≤ s.0.end = s.2.before in
              elim (apart 0 (gaps_of notes) r s.0 (maximal notes content) k s.1) [
                | inl q ↦ (let f = ap (λ (y : Run). y.end) q in omega (arith, f, sb))
                | inr e ↦ elim e [ inl j ↦ omega (arith, j, sf) | inr j ↦ omega (arith, j, sb, from, before) ]
              ])
        ])
  ]

  pub hole_there : (at : AtHandParts) → IsContent notes → (x : ℕ) → IsGap notes x → x < edge_of at notes
      → (h : OffsetRange) × IsHole notes h × LiesInRange h x
  hole_there at content x g edge =
      let s = run_there notes content x g in
      let r = s.0 in
      let from : r.start ≤ x = s.2.from in
      let before : x + 1 ≤ r.end = s.2.before in
      elim (held_or_not notes r.end) [
        | inl h ↦ (
          record { start = r.start; end = Some r.end },
          closed_is notes content r s.1 ((is_held-says notes r.end).1 h),
          (from, inr (r.end, refl, omega (arith, before))),
        )
        | inr free ↦ (
            let low = above_all content r x s.1 s.2 free in
            elim (end_of_file notes) as (λ o. end_of_file notes ≡ o
            → x < unwrap_or o (max (top_of notes) (runs_end at.given))
            → (h : OffsetRange) × IsHole notes h × LiesInRange h x) [
              | None ↦ λ e l. (record { start = held_end notes; end = None }, open_is notes e, (low, inl refl))
              | Some end ↦ λ e l. (let top = end_held end e in absurd (omega (arith, low, l, top)))
            ] refl edge)
      ]

  -- ---- what is ordered of its section

  pub start_below : (first : ℕ) → start_of notes first ≤ first
  start_below first = elim (find (is_head_to first) notes) as (λ o. find (is_head_to first) notes ≡ o
      → option_map_or (λ n. n.offset) o first ≤ first) [
        | None ↦ λ e. omega arith
        | Some n ↦ λ e.
            let t = (found-In (is_head_to first) notes n e).1 in
            let end = eqb-true (covered_end n) first (and_parts (not n.whole) (covered_end n == first) t).1 in
            let some = covers_first n in omega (arith, end, some)
      ] refl

  module _ (at : AtHandParts) (p : Section) (x : ℕ) (lies : LiesInSection p x) (edge : x < edge_of at notes) where
    abbrev reaches : Bool
    reaches = nat_lt p.first (top_of notes) || nat_le (p.first + 25) (edge_of at notes)

    ends : (claim : Option Claim) (e : ℕ) → end_by at notes p claim ≡ Some e → x < e
    ends claim e q = elim p.end as (λ o. ((o ≡ None) ⊎ ((d : ℕ) × (o ≡ Some d) × (x < d))) → (if is_some o then o
        else (if reaches && not (option_map_or (λ c. c.is_open) claim false)
        then Some (edge_of at notes) else None)) ≡ Some e → x < e) [
          | None ↦ λ l q. elim (reaches && not (option_map_or (λ c. c.is_open) claim false))
              as (λ b. (if b then Some (edge_of at notes) else None) ≡ Some e → x < e) [
                | true ↦ λ f. let s = same_Some (edge_of at notes) e f in omega (arith, s)
                | false ↦ λ f. absurd cc
              ] q
          | Some d ↦ λ l q. elim l [
            | inl f ↦ absurd (cc (f))
            | inr f ↦ (let s = same_Some d f.0 f.1 in let t = same_Some d e q in omega (arith, s, t, f.2))
          ]
        ] lies.1 q

    some_end : x < top_of notes → (e : ℕ) × (end_by at notes p None ≡ Some e)
    some_end top =
        let from : p.first ≤ x = lies.0 in
        let low : nat_lt p.first (top_of notes) ≡ true = lt-ltb p.first (top_of notes) (omega (arith, from)) in
        elim p.end as (λ o. (e : ℕ) × ((if is_some o then o
        else (if reaches && true then Some (edge_of at notes) else None)) ≡ Some e)) [
          | None ↦ (
            edge_of at notes,
            ap (λ b. if (b || nat_le (p.first + 25) (edge_of at notes)) && true then Some (edge_of at notes) else None)
                low,
          )
          | Some d ↦ (d, refl)
        ]

    -- What is asked for begins at the start, and reaches beyond the offset.
    pub record IsAskedFrom (start : ℕ) (o : Order) : Type 0 where
      pub starts : o.start ≡ start
      pub reaches_past : (o.end ≡ None) ⊎ ((e : ℕ) × (o.end ≡ Some e) × (x < e))

    asked_there : x < top_of notes → (start : ℕ) (claim : Option Claim)
        → (o : Order) × (asked_by at notes p start claim ≡ Some o) × IsAskedFrom start o
    asked_there top start None =
        let s = some_end top in
        let m = ends None s.0 s.1 in
        let reach = max s.0 (up_to_bound (needed_of notes start p.first) p.hole.end) in (
          gap_from start (Some reach),
          ap (λ end. asked (has_end_pack notes) None start
              (option_map (λ e. max e (up_to_bound (needed_of notes start p.first) p.hole.end)) end)) s.1,
          record { starts = refl; reaches_past = inr (reach, refl, omega (arith, m)) },
        )
    asked_there top start (Some c) =
        let most = λ (e : ℕ). max e (up_to_bound (needed_of notes start p.first) p.hole.end) in (
          record {
            reason = c.reason;
            start = start;
            end = option_map most (end_by at notes p (Some c));
            source = c.source;
            inside = false;
            again = false;
          },
          refl,
          record {
            starts = refl;
            reaches_past = elim (end_by at notes p (Some c)) as (λ o. end_by at notes p (Some c) ≡ o
                → (option_map most o ≡ None) ⊎ ((e : ℕ) × (option_map most o ≡ Some e) × (x < e))) [
                  | None ↦ λ e. inl refl
                  | Some e ↦ λ q. (let m = ends (Some c) e q in inr (most e, refl, omega (arith, m)))
                ] refl;
          },
        )

  -- A byte of what is asked for that isn't at hand lies in one of the parts.
  part_there : (at : AtHandParts) (p : Section) (o : Order) (x : ℕ) → LiesInSection p x → o.start ≤ p.first
      → (o.end ≡ None) ⊎ ((e : ℕ) × (o.end ≡ Some e) × (x < e)) → (LiesIn at.hand x → ⊥)
      → (r : OffsetRange) × In r (parts_of at p o) × LiesInRange r x
  unfolding parts_of
  part_there at p o x lies low past free =
      let g = lacked_there at.hand p.first o.end x (lies.0, past) free in
      among (lacking at.hand p.first o.end) g.0 g.1 g.2
    where
      from : p.first ≤ x
      from = lies.0

      begins : OffsetRange → Bool
      begins r = option_map_or (λ e. nat_lt r.start e) p.end true

      passes : (start : ℕ) → start ≤ x → option_map_or (λ e. nat_lt start e) p.end true ≡ true
      passes start l = elim p.end as (λ e. ((e ≡ None) ⊎ ((d : ℕ) × (e ≡ Some d) × (x < d)))
          → option_map_or (λ e. nat_lt start e) e true ≡ true) [
            | None ↦ λ h. refl
            | Some e ↦ λ h. elim h [
              | inl n ↦ absurd (cc (n))
              | inr s ↦ let same = same_Some e s.0 s.1 in let less = s.2 in
                  lt-ltb start e (omega (arith, l, same, less))
            ]
          ] lies.1

      begun : (ranges : List OffsetRange) (g : OffsetRange) → In g ranges → LiesInRange g x
          → (r : OffsetRange) × In r (begun_at o.start ranges) × LiesInRange r x
      begun [] g k l = absurd k
      begun (h ∷ ranges) g (inl e) l = (
        record { start = o.start; end = h.end },
        inl refl,
        (
          omega (arith, low, from),
          subst (λ (r : OffsetRange). (r.end ≡ None) ⊎ ((e : ℕ) × (r.end ≡ Some e) × (x < e))) e l.1,
        ),
      )
      begun (h ∷ ranges) g (inr k) l = (g, inr k, l)

      chosen : (b : Bool) (ranges : List OffsetRange) (g : OffsetRange) → In g ranges → LiesInRange g x
          → (r : OffsetRange) × In r (if b then begun_at o.start ranges else ranges) × LiesInRange r x
      chosen true ranges g k l = begun ranges g k l
      chosen false ranges g k l = (g, k, l)

      among : (ranges : List OffsetRange) (g : OffsetRange) → In g ranges → LiesInRange g x
          → (r : OffsetRange) × In r (parts_among at p o ranges) × LiesInRange r x
      among [] g k l = absurd k
      among (h ∷ ranges) g k l =
          let b = is_whole_needed at p o.start in
          let s = chosen b (h ∷ ranges) g k l in (
            s.0,
            (In-filter (λ r. option_map_or (λ e. nat_lt r.start e) p.end true)
                (if b then begun_at o.start (h ∷ ranges) else h ∷ ranges) s.0).1 (s.1, passes s.0.start s.2.0),
            s.2,
          )

  pub ordered_somewhere : (at : AtHandParts) → IsContent notes → (x : ℕ) → IsGap notes x → x < edge_of at notes
      → (LiesIn at.hand x → ⊥) → (o : Order) × In o (found_orders at notes) × LiesInOrder o x
  unfolding found_orders orders_of
  ordered_somewhere at content x g edge free =
      let h = hole_there at content x g edge in
      let p = (are_sections notes content).cover h.0 x h.1 h.2 in
      let start = start_of notes p.0.first in
      let n = g.below in
      let top = (top_of-bound notes (top_of notes)).0 (omega arith) n.0 n.1 in
      let less = n.2 in
      let o = asked_there at p.0 x p.3 edge (omega (arith, top, less)) start (claim_at notes start) in
      let s = o.2.starts in
      let below = start_below p.0.first in
      let r = part_there at p.0 o.0 x p.3 (omega (arith, s, below)) o.2.reaches_past free in
      let part = part_order at o.0 r.0 in
      let made : In part (orders_by at p.0 (Some o.0)) =
      (In-map (part_order at o.0) (parts_of at p.0 o.0) part).1 (r.0, r.1, refl) in (
        part,
        (In-flat_map (orders_of at notes) (sections_of notes) part).1
            (p.0, p.1, subst (λ a. In part (orders_by at p.0 a)) (sym o.1) made),
        r.2,
      )
