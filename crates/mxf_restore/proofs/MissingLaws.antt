-- Of an order no byte is held, but for the key and length of the head at its start.
use Rattle.mxf_views.proofs.Common.{◌≡◌, ◌⊎◌, ◌∙◌, ◌<◌, ◌≤◌, ◌-◌, ◌||◌, ℕ, Bool, true, false, not, nat_lt, max, min}
use Rattle.mxf_views.proofs.Common.{List, [], ◌∷◌, Option, None, Some, filter, if◌then◌else◌, is_some, option_map, refl, sym, ap}
use Rattle.mxf_views.proofs.Common.{subst, inl, inr, arith, ltb-true, cases_lt, same_Some, option_map_or, NoteParts}
use Rattle.mxf_views.proofs.Common.{covered_end, In, In-append, In-filter, IsContent}
use Rattle.mxf_catalogue.specs.declared.run.Run.{Run}
use Rattle.mxf_places.specs.AtHand.{AtHandParts, LiesBetween, LiesInRange, lacking, some_range, up_to_bound}
use Rattle.mxf_places.specs.Claims.{claim_at}
use Rattle.mxf_places.specs.Held.{IsHeld}
use Rattle.mxf_places.specs.declared.at_hand.OffsetRange.{OffsetRange}
use Rattle.mxf_places.specs.declared.claim.Claim.{Claim}
use Rattle.mxf_restore.specs.EndPacks.{has_end_pack}
use Rattle.mxf_restore.specs.Plan.{LiesInOrder, asked, asked_of, begun_at, end_by, gap_from, is_whole_needed}
use Rattle.mxf_restore.specs.Plan.{parts_among, parts_of, plan_of}
use Rattle.mxf_places.specs.Heads.{needed_of, start_of}
use Rattle.mxf_restore.specs.Sections.{sections_of}
use Rattle.mxf_restore.specs.declared.section.Section.{Section}
use Rattle.mxf_restore.specs.declared.plan.Order.{Order}
use Rattle.mxf_restore.proofs.OrderStarts.{is_part, whole_start}
use Rattle.mxf_restore.proofs.Options.{some_if}
use Rattle.mxf_restore.proofs.PlanMembers.{order_members}
use Rattle.mxf_restore.proofs.SectionCover.{Below, are_sections, below_some, lower}
use Rattle.mxf_restore.proofs.StartLaws.{start_is}

-- ---- the parts of what is asked for lie in it

-- The range has an offset, and its offsets lie between a start and an end.
pub record IsWithin (start : ℕ) (end : Option ℕ) (g : OffsetRange) : Type 0 where
  pub some : Below g.end g.start
  pub between : (x : ℕ) → LiesInRange g x → LiesBetween start end x

some_within : (start : ℕ) (end : Option ℕ) (g : OffsetRange) → In g (some_range start end) → IsWithin start end g
some_within start None g (inl e) = subst (IsWithin start None) (sym e) (record { some = inl refl; between = λ x l. l })
some_within start None g (inr k) = absurd k
some_within start (Some d) g k = elim (nat_lt start d) as (λ b. nat_lt start d ≡ b
    → In g (if b then record { start = start; end = Some d } ∷ [] else []) → IsWithin start (Some d) g) [
      | true ↦ λ t h. elim h [
        | inl e ↦ subst (IsWithin start (Some d)) (sym e)
            (record { some = inr (d, refl, ltb-true start d t); between = λ x l. l })
        | inr n ↦ absurd n
      ]
      | false ↦ λ t h. absurd h
    ] refl k

bounded : (start at x : ℕ) (end : Option ℕ) → LiesBetween start (Some (up_to_bound at end)) x → LiesBetween start end x
bounded start at x None l = (l.0, inl refl)
bounded start at x (Some e) l =
    let less = below_some x (min at e) l.1 in (l.0, inr (e, refl, omega (arith, less)))

lacked_within : (runs : List Run) (start : ℕ) (end : Option ℕ) (g : OffsetRange) → In g (lacking runs start end)
    → IsWithin start end g
lacked_within [] start end g k = some_within start end g k
lacked_within (r ∷ runs) start end g k =
    elim ((In-append g (some_range start (Some (up_to_bound r.start end))) (lacking runs (max start r.end) end)).0 k) [
      | inl h ↦ (
          let w = some_within start (Some (up_to_bound r.start end)) g h in
          record { some = w.some; between = λ x l. bounded start r.start x end (w.between x l) })
      | inr h ↦ (
          let w = lacked_within runs (max start r.end) end g h in record {
            some = w.some;
            between = λ x l. let b = w.between x l in let from = b.0 in (omega (arith, from), b.1);
          })
    ]

module _ (at : AtHandParts) (p : Section) (o : Order) where
  -- A part begins where what is asked for does, or no lower than the section. It ends no higher than what is asked for.
  pub record IsInAsked (r : OffsetRange) : Type 0 where
    pub starts : (r.start ≡ o.start) ⊎ (p.first ≤ r.start)
    pub ends : (x : ℕ) → LiesInRange r x → p.first ≤ x → Below o.end x

  lacked_in : (g : OffsetRange) → IsWithin p.first o.end g → IsInAsked g
  lacked_in g w = record {
    starts = inr (w.between g.start (omega arith, w.some)).0;
    ends = λ x l from. (w.between x l).1;
  }

  begun_in : (g : OffsetRange) → IsWithin p.first o.end g → IsInAsked (record { start = o.start; end = g.end })
  begun_in g w = record {
    starts = inl refl;
    ends = λ x l from. elim (cases_lt x g.start) [
      | inl below ↦ lower o.end x g.start (omega (arith, below)) (w.between g.start (omega arith, w.some)).1
      | inr above ↦ (w.between x (above, l.1)).1
    ];
  }

  among_in : (ranges : List OffsetRange) → ((g : OffsetRange) → In g ranges → IsWithin p.first o.end g)
      → (r : OffsetRange) → In r (parts_among at p o ranges) → IsInAsked r
  among_in [] within r (inl e) = subst IsInAsked (sym e) (record { starts = inl refl; ends = λ x l from. l.1 })
  among_in [] within r (inr k) = absurd k
  among_in (g ∷ ranges) within r k =
      let before : OffsetRange → Bool = λ q. option_map_or (λ e. nat_lt q.start e) p.end true in
      elim (is_whole_needed at p o.start) as (λ b.
      In r (filter before (if b then begun_at o.start (g ∷ ranges) else g ∷ ranges)) → IsInAsked r) [
        | true ↦ λ h. elim ((In-filter before (begun_at o.start (g ∷ ranges)) r).0 h).0 [
          | inl e ↦ subst IsInAsked (sym e) (begun_in g (within g (inl refl)))
          | inr j ↦ lacked_in r (within r (inr j))
        ]
        | false ↦ λ h. lacked_in r (within r ((In-filter before (g ∷ ranges) r).0 h).0)
      ] k

  parts_in : (r : OffsetRange) → In r (parts_of at p o) → IsInAsked r
  unfolding parts_of
  parts_in r k = among_in (lacking at.hand p.first o.end) (lacked_within at.hand p.first o.end) r k

-- ---- what is asked for ends in the hole

asked_end : (ended : Bool) (claim : Option Claim) (start : ℕ) (end : Option ℕ) (o : Order)
    → asked ended claim start end ≡ Some o → o.end ≡ end
asked_end ended None start end o e =
    sym (ap (λ (r : Order). r.end) (some_if (is_some end || not ended) (gap_from start end) o e).1)
asked_end ended (Some c) start end o e = sym (ap (λ (r : Order). r.end) (same_Some _ o e))

module _ (at : AtHandParts) (notes : List NoteParts) (content : IsContent notes) where
  in_hole : (p : Section) → In p (sections_of notes) → (a : Order) → asked_of at notes p ≡ Some a → (x : ℕ)
      → p.first ≤ x → Below a.end x → LiesInRange p.hole x
  in_hole p k a e x from below =
      let are = are_sections notes content in
      let first = (are.within p p.first k (are.some p k)).0 in
      let start = start_of notes p.first in
      let claim = claim_at notes start in
      let most : ℕ → ℕ = λ d. max d (up_to_bound (needed_of notes start p.first) p.hole.end) in
      let ends : a.end ≡ option_map most (end_by at notes p claim) =
      asked_end (has_end_pack notes) claim start _ a e in (
        omega (arith, first, from),
        elim p.hole.end as (λ h. p.hole.end ≡ h → Below h x) [
          | None ↦ λ f. inl refl
          | Some h ↦ λ f. elim p.end as (λ o. p.end ≡ o → Below (Some h) x) [
            | None ↦ λ g.
                let high = elim_below p h f (are.within p (max p.first h) k (omega arith, inl g)).1 in
                absurd (omega (arith, high))
            | Some d ↦ λ g.
                let some = below_of p.end d g p.first (are.some p k).1 in
                let last = are.within p (d - 1) k (omega (arith, some), inr (d, g, omega (arith, some))) in
                let high = elim_below p h f last.1 in
                let reach : end_by at notes p claim ≡ Some d =
                ap (λ o. if is_some o then o
                else end_by at notes (record { first = p.first; end = None; hole = p.hole }) claim) g in
                let l = below_of a.end (max d (up_to_bound (needed_of notes start p.first) (Some h)))
                (ends ∙ ap (option_map most) reach
                ∙ ap (λ b. Some (max d (up_to_bound (needed_of notes start p.first) b))) f) x below in
                inr (h, refl, omega (arith, l, high, some))
          ] refl
        ] refl,
      )
    where
      below_of : (end : Option ℕ) (d : ℕ) → end ≡ Some d → (y : ℕ) → Below end y → y < d
      below_of end d e y b = below_some y d (subst (λ o. Below o y) e b)

      elim_below : (p : Section) (h : ℕ) → p.hole.end ≡ Some h → {y : ℕ} → Below p.hole.end y → y < h
      elim_below p h f {y} b = below_of p.hole.end h f y b

  pub none_held : (o : Order) (x : ℕ) → In o (plan_of at notes).orders → LiesInOrder o x → IsHeld notes x
      → (n : NoteParts) × In n notes × (n.whole ≡ false) × (n.offset ≡ o.start) × (x < covered_end n)
  none_held o x k lies held =
      let s = (order_members at notes o).0 k in
      let p = s.0 in
      let part = is_part at notes p o s.2 in
      let start = whole_start at notes p o part in
      let inside = parts_in at p part.whole part.part part.part_in in
      let lies : LiesInRange part.part x = subst (λ (r : Order). LiesInOrder r x) (sym part.is) lies in
      let begins : part.part.start ≡ o.start = ap (λ (r : Order). r.start) part.is in
      let low = lies.0 in
      elim (cases_lt x p.first) [
        | inl before ↦ elim inside.starts [
          | inl e ↦ elim (start_is notes content p.first) [
            | inl h ↦ (
                let offset = h.1.begins in
                let end = h.1.ends in
                (h.0, h.1.held, h.1.head, offset ∙ sym start ∙ sym e ∙ begins, omega (arith, end, before)))
            | inr h ↦ (let same = h.0 in absurd (omega (arith, same, start, e, low, before)))
          ]
          | inr above ↦ absurd (omega (arith, above, low, before))
        ]
        | inr from ↦ absurd (
            ((are_sections notes content).holes p s.1).none_held x
            (in_hole p s.1 part.whole part.asked_is x from (inside.ends x lies from)) held)
      ]
