-- What orders of plans for edit units ask for that isn't there.
use Rattle.mxf_views.proofs.Common.{◌≡◌, ◌∙◌, ◌+◌, ℕ, Bool, true, false, List, []}
use Rattle.mxf_views.proofs.Common.{Option, None, Some, if◌then◌else◌, filter, flat_map, option_map, refl, sym, ap}
use Rattle.mxf_views.proofs.Common.{subst, inl, inr}
use Rattle.mxf_views.proofs.Common.{false≢true, same_Some, slice_get, NoteParts, In, In-filter, In-flat_map, In-map}
use Rattle.mxf_views.proofs.Common.{In-union, option_to_list}
use Rattle.mxf_places.specs.AtHand.{AreAtHand, AtHandParts}
use Rattle.mxf_places.specs.Claims.{claim_at}
use Rattle.mxf_places.specs.Heads.{start_of}
use Rattle.mxf_places.specs.declared.at_hand.OffsetRange.{OffsetRange}
use Rattle.mxf_places.specs.declared.claim.Claim.{Claim}
use Rattle.mxf_places.specs.declared.reason.Reason.{Reason}
use Rattle.mxf_places.specs.declared.reason.Reason.TheVariants as reasons
use Rattle.mxf_places.proofs.AtHandLaws.{has_offsets-says}
use Rattle.mxf_restore.specs.Fronts.{front_of, front_range, looked_for}
use Rattle.mxf_restore.specs.Orders.{WasHandedIn}
use Rattle.mxf_restore.specs.Plan.{asked_of, is_again, orders_by, orders_of, part_order, parts_of}
use Rattle.mxf_restore.specs.Sections.{sections_of}
use Rattle.mxf_restore.specs.declared.section.Section.{Section}
use Rattle.mxf_restore.specs.declared.plan.Order.{Order}
use Rattle.mxf_restore.proofs.PlanLaws.{one_order, order_total}
use Rattle.mxf_partial.specs.Helping.{helping_by, helping_for, helping_of}
use Rattle.mxf_partial.specs.MetadataPlans.{is_of_metadata, metadata_plan}
use Rattle.mxf_partial.specs.Orders.{IsUnitPlan, UnitPlanParts, is_described}
use Rattle.mxf_partial.specs.Wanted.{WantedParts, hand_of, notes_of}
use Rattle.mxf_progress.specs.Progress.{IsUngivenAt}
use Rattle.mxf_progress.proofs.OrderLaws.{lacked_one}

module _ (at : AtHandParts) where
  -- The order says that it is `again` exactly if its bytes were handed in.
  abbrev SaysAgain : Order → Type 0
  SaysAgain o = o.again ≡ is_again at (record { start = o.start; end = o.end })

  part_says : (a : Order) (r : OffsetRange) (o : Order) → o ≡ part_order at a r → SaysAgain o
  part_says a r o e = subst SaysAgain (sym e) refl

  orders_say : (notes : List NoteParts) (p : Section) (o : Order) → In o (orders_of at notes p) → SaysAgain o
  unfolding orders_of
  orders_say notes p o k = elim (asked_of at notes p) as (λ a. In o (orders_by at p a) → SaysAgain o) [
    | None ↦ λ h. absurd h
    | Some a ↦ λ h. (let s = (In-map (part_order at a) (parts_of at p a) o).0 h in part_says a s.0 o s.2)
  ] k

  front_says : (notes : List NoteParts) (p : Section) (o : Order) → front_of at notes p ≡ Some o → SaysAgain o
  unfolding front_of
  front_says notes p o e =
      let a = looked_for at notes p in
      elim (slice_get (parts_of at p a) 0) as (λ d. option_map (λ r. part_order at a (front_range r)) d ≡ Some o
      → SaysAgain o) [
        | None ↦ λ e. absurd cc
        | Some r ↦ λ e. part_says a (front_range r) o (sym (same_Some _ o e))
      ] e

  one_front : (notes : List NoteParts) (p : Section) (o : Order) → In o (option_to_list (front_of at notes p))
      → SaysAgain o
  one_front notes p o k = elim (front_of at notes p) as (λ d. front_of at notes p ≡ d → In o (option_to_list d)
      → SaysAgain o) [
        | None ↦ λ e h. absurd h
        | Some f ↦ λ e h. elim h [
          | inl same ↦ subst SaysAgain (sym same) (front_says notes p f e)
          | inr n ↦ absurd n
        ]
      ] refl k

  helping_for_say : (described : Bool) (notes : List NoteParts) (p : Section) (c : Claim) (r : Reason) (o : Order)
      → In o (helping_for described at notes p c r) → SaysAgain o
  helping_for_say described notes p c reasons.Header o k = one_front notes p o k
  helping_for_say described notes p c reasons.Footer o k = orders_say notes p o k
  helping_for_say true notes p c reasons.Metadata o k = absurd k
  helping_for_say false notes p c reasons.Metadata o k = elim c.is_open as (λ b.
      In o (if b then option_to_list (front_of at notes p) else orders_of at notes p) → SaysAgain o) [
        | true ↦ one_front notes p o
        | false ↦ orders_say notes p o
      ] k
  helping_for_say described notes p c reasons.Index o k = orders_say notes p o k
  helping_for_say described notes p c reasons.Entry o k = absurd k
  helping_for_say described notes p c reasons.Previous o k = absurd k
  helping_for_say described notes p c reasons.Gap o k = absurd k
  helping_for_say described notes p c reasons.Front o k = absurd k
  helping_for_say described notes p c reasons.Unit o k = absurd k

  helping_say : (described : Bool) (notes : List NoteParts) (o : Order)
      → In o (flat_map (helping_of described at notes) (sections_of notes)) → SaysAgain o
  helping_say described notes o k =
      let s = (In-flat_map (helping_of described at notes) (sections_of notes) o).0 k in
      elim (claim_at notes (start_of notes s.0.first)) as (λ c. In o (helping_by described at notes s.0 c)
      → SaysAgain o) [
        | None ↦ λ h. absurd h
        | Some c ↦ λ h. helping_for_say described notes s.0 c c.reason o h
      ] s.2

  metadata_say : (notes : List NoteParts) (o : Order) → In o (metadata_plan at notes).orders → SaysAgain o
  metadata_say notes o k =
      let found = flat_map (helping_of false at notes) (sections_of notes) in
      let u = In-union order_total one_order o [] (filter is_of_metadata found) in
      elim (u.0 k) [
        | inl n ↦ absurd n
        | inr n ↦ helping_say false notes o ((In-filter is_of_metadata found o).0 n).0
      ]

  -- ---- what follows

  ungiven_by : AreAtHand at → (o : Order) → SaysAgain o → (end : ℕ) → o.again ≡ false → o.end ≡ Some end
      → (x : ℕ) × IsUngivenAt at o x
  ungiven_by hand o says end new ends =
      let s = lacked_one at.given hand.given o.start end (λ t.
      let again = says ∙ ap (λ (e : Option ℕ). is_again at (record { start = o.start; end = e })) ends ∙ t in
      false≢true (sym new ∙ again)) in
      (s.0, record { lies = (s.1, inr (end, ends, s.2)); lacks = s.3 })

  handed_in_by : AreAtHand at → (o : Order) → SaysAgain o → o.again ≡ true → WasHandedIn at o.start o.end
  handed_in_by hand o says again = elim o.end as (λ d. is_again at (record { start = o.start; end = d }) ≡ true
      → WasHandedIn at o.start d) [
        | None ↦ λ t. (has_offsets-says at.hand o.start (o.start + 25) hand.hand).0 t
        | Some e ↦ λ t. (has_offsets-says at.given o.start e hand.given).0 t
      ] (sym says ∙ again)

unit_says : (w : WantedParts) (p : UnitPlanParts) (o : Order) → IsUnitPlan w p → In o p.orders
    → SaysAgain (hand_of w) o
unit_says w p o is k = elim ((is.members o).0 k) [
  | inl finding ↦ elim finding [
    | inl helping ↦ helping_say (hand_of w) (is_described w) (notes_of w) o helping
    | inr front ↦ (
        let f = front.front in
        let says = front_says (hand_of w) (notes_of w) front.section f.front f.front_is in
        subst (SaysAgain (hand_of w)) (sym f.is) says)
  ]
  | inr unit ↦ subst (SaysAgain (hand_of w)) (sym unit.is) refl
]

pub unit_ungiven : (w : WantedParts) (p : UnitPlanParts) (o : Order) (end : ℕ) → IsUnitPlan w p
    → AreAtHand (hand_of w) → In o p.orders → o.again ≡ false → o.end ≡ Some end
    → (x : ℕ) × IsUngivenAt (hand_of w) o x
unit_ungiven w p o end is hand k = ungiven_by (hand_of w) hand o (unit_says w p o is k) end

pub unit_handed_in : (w : WantedParts) (p : UnitPlanParts) (o : Order) → IsUnitPlan w p → AreAtHand (hand_of w)
    → In o p.orders → o.again ≡ true → WasHandedIn (hand_of w) o.start o.end
unit_handed_in w p o is hand k = handed_in_by (hand_of w) hand o (unit_says w p o is k)

pub metadata_ungiven : (at : AtHandParts) (notes : List NoteParts) (o : Order) (end : ℕ) → AreAtHand at
    → In o (metadata_plan at notes).orders → o.again ≡ false → o.end ≡ Some end → (x : ℕ) × IsUngivenAt at o x
metadata_ungiven at notes o end hand k = ungiven_by at hand o (metadata_say at notes o k) end

pub metadata_handed_in : (at : AtHandParts) (notes : List NoteParts) (o : Order) → AreAtHand at
    → In o (metadata_plan at notes).orders → o.again ≡ true → WasHandedIn at o.start o.end
metadata_handed_in at notes o hand k = handed_in_by at hand o (metadata_say at notes o k)
