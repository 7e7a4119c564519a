-- What an order asks for that isn't there.
use Rattle.mxf_views.proofs.Common.{◌≡◌, ◌⊎◌, ◌∙◌, ◌<◌, ◌≤◌, ℕ, true, false, IsTrue, List, [], ◌∷◌}
use Rattle.mxf_views.proofs.Common.{None, Some, max, refl, sym, ap, subst, inl, inr, arith, cases_lt, same_Some}
use Rattle.mxf_views.proofs.Common.{false≢true, NoteParts, covers_first, In, IsContent, IsCover, LiesIn}
use Rattle.mxf_catalogue.specs.declared.run.Run.{Run}
use Rattle.mxf_places.specs.AtHand.{AreAtHand, AtHandParts, LiesBetween, has_offset, has_offsets}
use Rattle.mxf_places.specs.AtHand.{is_none, lacking, runs_end}
use Rattle.mxf_places.specs.Held.{IsHeld}
use Rattle.mxf_places.specs.declared.at_hand.OffsetRange.{OffsetRange}
use Rattle.mxf_places.proofs.AtHandLaws.{has_offset-says, has_offsets-says, lacked_is, lacked_there, runs_end-bound}
use Rattle.mxf_restore.specs.Orders.{IsLackingIn, IsOrder, IsStartOf, IsWholeNeeded, WasHandedIn}
use Rattle.mxf_restore.specs.Plan.{LiesInOrder, plan_of}
use Rattle.mxf_restore.specs.Sections.{LiesInSection, sections_of}
use Rattle.mxf_restore.specs.declared.section.Section.{Section}
use Rattle.mxf_restore.specs.declared.plan.Order.{Order}
use Rattle.mxf_restore.proofs.MissingLaws.{none_held}
use Rattle.mxf_restore.proofs.PartLaws.{plan_orders_say}
use Rattle.mxf_restore.proofs.SectionCover.{are_sections}
use Rattle.mxf_progress.specs.Progress.{IsLackedAt, IsUngivenAt, LacksOfHead}

-- ---- offsets that runs lack

pub lies_or_not : (runs : List Run) (x : ℕ) → LiesIn runs x ⊎ (LiesIn runs x → ⊥)
lies_or_not runs x =
    let says = has_offset-says runs x in
    elim (has_offset runs x) as (λ b. has_offset runs x ≡ b → LiesIn runs x ⊎ (LiesIn runs x → ⊥)) [
      | true ↦ λ e. inl (says.0 e)
      | false ↦ λ e. inr (λ h. false≢true (sym e ∙ says.1 h))
    ] refl

-- Where runs don't have all offsets from one up to another, one of these lies in none.
pub lacked_one : (runs : List Run) → IsCover runs → (from to : ℕ) → (IsTrue (has_offsets runs from to) → ⊥)
    → (x : ℕ) × (from ≤ x) × (x < to) × (LiesIn runs x → ⊥)
lacked_one runs cover from to not = elim (lacking runs from (Some to)) as (λ gs. lacking runs from (Some to) ≡ gs
    → (x : ℕ) × (from ≤ x) × (x < to) × (LiesIn runs x → ⊥)) [
      | [] ↦ λ e. absurd (not (ap is_none e))
      | (g ∷ gs) ↦ λ e.
          let is = lacked_is 0 runs cover.maximal from (Some to) g
          (subst (λ all. In g all) (sym e) (inl refl)) in
          let l = is.between g.start is.some in
          (g.start, l.0, below to g.start l.1, is.none g.start is.some)
    ] refl
  where
    below : (e x : ℕ) → ((Some e ≡ None) ⊎ ((d : ℕ) × (Some e ≡ Some d) × (x < d))) → x < e
    below e x (inl n) = absurd (cc (n))
    below e x (inr s) = let same = same_Some e s.0 s.1 in let less = s.2 in omega (arith, same, less)

module _ (at : AtHandParts) (notes : List NoteParts) (content : IsContent notes) (hand : AreAtHand at) where
  section_free : (p : Section) (x : ℕ) → In p (sections_of notes) → LiesInSection p x → IsHeld notes x → ⊥
  section_free p x k l h =
      let are = are_sections notes content in (are.holes p k).none_held x (are.within p x k l) h

  pub start_le : (p : Section) (start : ℕ) → IsStartOf notes p.first start → start ≤ p.first
  start_le p start (inl s) =
      let end = s.1.ends in
      let begins = s.1.begins in
      let some = covers_first s.0 in omega (arith, end, begins, some)
  start_le p start (inr s) = let same = s.0 in omega (arith, same)

  -- A packet that begins at an order's start has that byte.
  start_held : (o : Order) (n : NoteParts) → In n notes → n.offset ≡ o.start → IsHeld notes o.start
  start_held o n k e = (
    n,
    k,
    record {
      from = omega (arith, e);
      before = (let some = covers_first n in omega (arith, e, some));
    },
  )

  module _ (p : Section) (o : Order) (k : In o (plan_of at notes).orders) (i : In p (sections_of notes))
      (f : IsOrder at notes p o) where
    abbrev asked : Order
    asked = f.asked

    asked_from : asked.start ≤ p.first
    asked_from = start_le p asked.start f.is_asked.start

    first_free : IsHeld notes p.first → ⊥
    first_free = section_free p p.first i ((are_sections notes content).some p i)

    -- An order that begins in its section has no byte that is held.
    none_from : LiesInSection p o.start → (x : ℕ) → LiesInOrder o x → IsHeld notes x → ⊥
    none_from starts x l h =
        let n = none_held at notes content o x k l h in
        section_free p o.start i starts (start_held o n.0 n.1 n.3)

    -- An order that begins at a range that lacks begins in its section.
    starts_in : (r : OffsetRange) → IsLackingIn at p asked r → o.start ≡ r.start
        → ((bound : ℕ) → p.end ≡ Some bound → o.start < bound) → LiesInSection p o.start
    starts_in r l same before =
        let from = (l.between r.start l.some).0 in (
          omega (arith, from, same),
          elim p.end as (λ e. p.end ≡ e → (e ≡ None) ⊎ ((d : ℕ) × (e ≡ Some d) × (o.start < d))) [
            | None ↦ λ e. inl refl
            | Some d ↦ λ e. inr (d, refl, before d e)
          ] refl,
        )

    -- The first offset of a range that lacks lies in the order that ends with it.
    lies_at : (r : OffsetRange) → IsLackingIn at p asked r → o.end ≡ r.end → o.start ≤ r.start
        → LiesInOrder o r.start
    lies_at r l ends low = (low, subst (λ e. (e ≡ None) ⊎ ((d : ℕ) × (e ≡ Some d) × (r.start < d))) (sym ends) l.some.1)

    -- So does the first byte of the section, if the order begins no higher.
    lies_first : (r : OffsetRange) → IsLackingIn at p asked r → o.end ≡ r.end → o.start ≤ p.first
        → LiesInOrder o p.first
    lies_first r l ends low =
        let from = (l.between r.start l.some).0 in (
          low,
          elim l.some.1 [
            | inl e ↦ inl (ends ∙ e)
            | inr s ↦ inr (s.0, ends ∙ s.1, (let less = s.2 in omega (arith, from, less)))
          ],
        )

    -- The first byte of the section is held by no packet that begins there.
    begun : (r : OffsetRange) → IsLackingIn at p asked r → o.end ≡ r.end → IsWholeNeeded at p asked.start
        → o.start ≡ asked.start → (x : ℕ) × IsLackedAt at notes o x
    begun r l ends (inl whole) starts =
        let from = (l.between r.start l.some).0 in
        let same : o.start ≡ p.first = starts ∙ whole in (
          r.start,
          record {
            lies = lies_at r l ends (omega (arith, same, from));
            free = λ h. none_from (subst (LiesInSection p) (sym same) ((are_sections notes content).some p i)) r.start
                (lies_at r l ends (omega (arith, same, from))) h;
            lacks = l.none r.start l.some;
          },
        )
    begun r l ends (inr free) starts =
        let low = asked_from in (
          p.first,
          record {
            lies = lies_first r l ends (omega (arith, starts, low));
            free = first_free;
            lacks = free;
          },
        )

    -- Where a range lacks, its order has an offset that isn't there.
    lacking_order : (r : OffsetRange) → IsLackingIn at p asked r → o.end ≡ r.end → o.start ≡ r.start
        → ((bound : ℕ) → p.end ≡ Some bound → o.start < bound) → (x : ℕ) → LiesInOrder o x
        → IsLackedAt at notes o x
    lacking_order r l ends starts before x lies = record {
      lies = lies;
      free = none_from (starts_in r l starts before) x lies;
      lacks = l.none x (
        (let low = lies.0 in omega (arith, low, starts)),
        subst (λ e. (e ≡ None) ⊎ ((d : ℕ) × (e ≡ Some d) × (x < d))) ends lies.1,
      );
    }

    -- Where nothing lacks, all that is asked for from the first byte of the section on is at hand.
    all_there : ((r : OffsetRange) → IsLackingIn at p asked r → ⊥) → (x : ℕ) → LiesBetween p.first asked.end x
        → LiesIn at.hand x
    all_there none x l = elim (lies_or_not at.hand x) [
      | inl h ↦ h
      | inr free ↦ (
          let s = lacked_there at.hand p.first asked.end x l free in
          absurd (none s.0 (lacked_is 0 at.hand hand.hand.maximal p.first asked.end s.0 s.1)))
    ]

    ends_somewhere : ((r : OffsetRange) → IsLackingIn at p asked r → ⊥) → asked.end ≡ None → ⊥
    ends_somewhere none e =
        let top = max p.first (runs_end at.hand) in
        let there = all_there none top (omega arith, inl e) in
        let low = (runs_end-bound 0 at.hand hand.hand.maximal (runs_end at.hand)).0 (omega arith) top there in
        omega (arith, low)

    not_again : o.again ≡ false → WasHandedIn at o.start o.end → ⊥
    not_again e h = false≢true (sym e ∙ f.again.1 h)

    pub ungiven_one : o.again ≡ false → (end : ℕ) → o.end ≡ Some end → (x : ℕ) × IsUngivenAt at o x
    ungiven_one e end ends =
        let says = has_offsets-says at.given o.start end hand.given in
        let s = lacked_one at.given hand.given o.start end
        (λ t. not_again e (subst (WasHandedIn at o.start) (sym ends) (says.0 t))) in
        (s.0, record { lies = (s.1, inr (end, ends, s.2)); lacks = s.3 })

    -- Where nothing lacks, what isn't given is a byte of the head.
    of_head : ((r : OffsetRange) → IsLackingIn at p asked r → ⊥) → o.start ≡ asked.start → o.end ≡ asked.end
        → (x : ℕ) → IsUngivenAt at o x → LacksOfHead at notes o
    of_head none starts ends x u =
        let from_first = λ (y : ℕ) (l : LiesInOrder o y) (low : p.first ≤ y). all_there none y (
          low,
          subst (λ e. (e ≡ None) ⊎ ((d : ℕ) × (e ≡ Some d) × (y < d))) ends l.1,
        ) in
        let below : x < p.first = elim (cases_lt x p.first) [
          | inl l ↦ l
          | inr l ↦ absurd (u.lacks (hand.within x (from_first x u.lies l)))
        ] in
        elim f.is_asked.start [
          | inl s ↦ (let end = s.1.ends in record {
            head = s.0;
            held = s.1.held;
            cut = s.1.head;
            begins = s.1.begins ∙ sym starts;
            ungiven = (x, u, omega (arith, below, end));
            rest = λ y l low. from_first y l (omega (arith, low, end));
          })
          | inr s ↦ (let same = s.0 in let low = u.lies.0 in absurd (omega (arith, same, low, starts, below)))
        ]

    pub new_one : o.again ≡ false → ((x : ℕ) × IsLackedAt at notes o x) ⊎ LacksOfHead at notes o
    new_one e = elim f.part [
      | inl all ↦ elim o.end as (λ d. o.end ≡ d → ((x : ℕ) × IsLackedAt at notes o x) ⊎ LacksOfHead at notes o) [
        | None ↦ λ ends. absurd (ends_somewhere all.0 (sym all.2 ∙ ends))
        | Some d ↦ λ ends. (let s = ungiven_one e d ends in inr (of_head all.0 all.1 all.2 s.0 s.1))
      ] refl
      | inr s ↦ elim s.3 [
        | inl first ↦ inl (begun s.0 s.1 s.2 first.1 first.2)
        | inr other ↦ inl (
          s.0.start,
          lacking_order s.0 s.1 s.2 other.1 s.4 s.0.start
              (lies_at s.0 s.1 s.2 (let same = other.1 in omega (arith, same))),
        )
      ]
    ]

    pub inside_one : o.inside ≡ true → (x : ℕ) → LiesInOrder o x → IsLackedAt at notes o x
    inside_one e x lies =
        let apart = f.inside.0 e in
        elim f.part [
          | inl all ↦ absurd (apart all.1)
          | inr s ↦ elim s.3 [
            | inl first ↦ absurd (apart first.2)
            | inr other ↦ lacking_order s.0 s.1 s.2 other.1 s.4 x lies
          ]
        ]

  module _ (o : Order) (k : In o (plan_of at notes).orders) where
    abbrev section_of : (p : Section) × In p (sections_of notes) × IsOrder at notes p o
    section_of = (plan_orders_say at notes content hand.given hand.hand o).0 k

    pub asks_for_one : o.again ≡ false → ((x : ℕ) × IsLackedAt at notes o x) ⊎ LacksOfHead at notes o
    asks_for_one e = let s = section_of in new_one s.0 o k s.1 s.2 e

    pub ungiven_there : (end : ℕ) → o.again ≡ false → o.end ≡ Some end → (x : ℕ) × IsUngivenAt at o x
    ungiven_there end e ends = let s = section_of in ungiven_one s.0 o k s.1 s.2 e end ends

    pub was_handed_in : o.again ≡ true → WasHandedIn at o.start o.end
    was_handed_in e = section_of.2.again.0 e

    pub inside_lacks : (x : ℕ) → o.inside ≡ true → LiesInOrder o x → IsLackedAt at notes o x
    inside_lacks x e lies = let s = section_of in inside_one s.0 o k s.1 s.2 e x lies
