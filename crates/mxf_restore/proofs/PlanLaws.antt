-- Orders and disputed places in their order.
use Rattle.mxf_views.proofs.Common.{◌≡◌, ◌∙◌, ℕ, Bool, true, false, Option, None, Some, [], ◌∷◌, get_or, refl, sym, ap}
use Rattle.mxf_views.proofs.Common.{IsTotalOrder, options_total, nat_cmp-IsAntisymmetric, Equal, Less, nat_cmp_total}
use Rattle.mxf_views.proofs.Common.{on_total, then_total, ties, bool_cmp, nat_cmp, ordering_then, option_cmp}
use Rattle.std.specs.FinMap.{IsAntisymmetric}
use Rattle.std.specs.Ordering.{ordering_reverse}
use Rattle.mxf_restore.specs.Plan.{disputed_place_cmp, order_cmp}
use Rattle.mxf_places.specs.FirstClaims.{reason_rank}
use Rattle.mxf_places.specs.declared.reason.Reason.{Reason}
use Rattle.mxf_places.specs.declared.reason.Reason.TheVariants.{Header, Footer, Metadata, Index, Entry, Previous, Gap}
use Rattle.mxf_restore.specs.declared.plan.Order.{Order}
use Rattle.mxf_restore.specs.declared.plan.DisputedPlace.{DisputedPlace}
use Rattle.mxf_places.specs.declared.reason.Reason.TheVariants as reasons
use Rattle.mxf_restore.specs.contracts.plan.OrderOrd.TheImpl as order_ord
use Rattle.mxf_restore.specs.contracts.plan.DisputedPlaceOrd.TheImpl as disputed_place_ord
use Rattle.mxf_places.specs.contracts.reason.ReasonOrd.TheImpl as reason_ord

same_ranks : (a b : Reason) → (reason_ord.ghosts).cmp a b ≡ nat_cmp (reason_rank a) (reason_rank b)
same_ranks Header Header = refl
same_ranks Header _ = refl
same_ranks Footer Footer = refl
same_ranks Footer _ = refl
same_ranks Metadata Metadata = refl
same_ranks Metadata _ = refl
same_ranks Index Index = refl
same_ranks Index _ = refl
same_ranks Entry Entry = refl
same_ranks Entry _ = refl
same_ranks Previous Previous = refl
same_ranks Previous _ = refl
same_ranks Gap Gap = refl
same_ranks Gap _ = refl
same_ranks reasons.Front reasons.Front = refl
same_ranks reasons.Front _ = refl
same_ranks reasons.Unit reasons.Unit = refl
same_ranks reasons.Unit _ = refl

pub orders : (a b : Order) → (order_ord.ghosts).cmp a b ≡ order_cmp a b
orders a b = ap (λ r. ordering_then r (ordering_then (nat_cmp a.start b.start)
    (ordering_then (option_cmp nat_cmp a.end b.end) (ordering_then (option_cmp nat_cmp a.source b.source)
    (ordering_then (bool_cmp a.inside b.inside) (bool_cmp a.again b.again)))))) (same_ranks a.reason b.reason)

pub disputed_places : (a b : DisputedPlace) → (disputed_place_ord.ghosts).cmp a b ≡ disputed_place_cmp a b
disputed_places a b =
    ap (λ r. ordering_then r (ordering_then (nat_cmp a.place b.place) (option_cmp nat_cmp a.source b.source)))
    (same_ranks a.reason b.reason)

-- ---- each is one

ranked : ℕ → Reason
ranked n =
    get_or (Header ∷ Footer ∷ Metadata ∷ Index ∷ Entry ∷ Previous ∷ Gap ∷ reasons.Front ∷ reasons.Unit ∷ []) n Header

ranked_back : (r : Reason) → ranked (reason_rank r) ≡ r
unfolding ranked
ranked_back Header = refl
ranked_back Footer = refl
ranked_back Metadata = refl
ranked_back Index = refl
ranked_back Entry = refl
ranked_back Previous = refl
ranked_back Gap = refl
ranked_back reasons.Front = refl
ranked_back reasons.Unit = refl

one_reason : (a b : Reason) → nat_cmp (reason_rank a) (reason_rank b) ≡ Equal → a ≡ b
one_reason a b e =
    sym (ranked_back a) ∙ ap ranked (nat_cmp-IsAntisymmetric (reason_rank a) (reason_rank b) e) ∙ ranked_back b

one_option : (a b : Option ℕ) → option_cmp nat_cmp a b ≡ Equal → a ≡ b
one_option None None e = refl
one_option None (Some y) e = absurd cc
one_option (Some x) None e = absurd cc
one_option (Some x) (Some y) e = ap (λ (z : ℕ). Some z) (nat_cmp-IsAntisymmetric x y e)

one_bool : (a b : Bool) → bool_cmp a b ≡ Equal → a ≡ b
one_bool true true e = refl
one_bool false false e = refl
one_bool true false e = absurd cc
one_bool false true e = absurd cc

pub one_order : IsAntisymmetric order_cmp
one_order a b e =
    let p = ties _ _ e in
    let q = ties _ _ p.1 in
    let r = ties _ _ q.1 in
    let reason = one_reason a.reason b.reason p.0 in
    let start = nat_cmp-IsAntisymmetric a.start b.start q.0 in
    let end = one_option a.end b.end r.0 in
    let t = ties _ _ r.1 in
    let u = ties _ _ t.1 in
    let source = one_option a.source b.source t.0 in
    let inside = one_bool a.inside b.inside u.0 in
    let again = one_bool a.again b.again u.1 in
    λ i. record {
      reason = reason i;
      start = start i;
      end = end i;
      source = source i;
      inside = inside i;
      again = again i;
    }

pub one_disputed_place : IsAntisymmetric disputed_place_cmp
one_disputed_place a b e =
    let p = ties _ _ e in
    let q = ties _ _ p.1 in
    let reason = one_reason a.reason b.reason p.0 in
    let place = nat_cmp-IsAntisymmetric a.place b.place q.0 in
    let source = one_option a.source b.source q.1 in
    λ i. record { reason = reason i; place = place i; source = source i }

bool_total : IsTotalOrder bool_cmp
bool_total = record { antisymm = flip; trans = trans; congr = alike } where
  flip : (x y : Bool) → bool_cmp x y ≡ ordering_reverse (bool_cmp y x)
  flip true true = refl
  flip true false = refl
  flip false true = refl
  flip false false = refl

  trans : (x y z : Bool) → bool_cmp x y ≡ Less → bool_cmp y z ≡ Less → bool_cmp x z ≡ Less
  trans false true z d e = absurd (elim z as (λ w. bool_cmp true w ≡ Less → ⊥) [ true ↦ λ f. cc | false ↦ λ f. cc ] e)
  trans false false z d e = absurd cc
  trans true true z d e = absurd cc
  trans true false z d e = absurd cc

  alike : (x y z : Bool) → bool_cmp x y ≡ Equal → bool_cmp x z ≡ bool_cmp y z
  alike true true z e = refl
  alike false false z e = refl
  alike true false z e = absurd cc
  alike false true z e = absurd cc

pub order_total : IsTotalOrder order_cmp
order_total = then_total (on_total (λ o. reason_rank o.reason) nat_cmp_total)
    (then_total (on_total (λ o. o.start) nat_cmp_total)
    (then_total (on_total (λ o. o.end) (options_total nat_cmp_total))
    (then_total (on_total (λ o. o.source) (options_total nat_cmp_total))
    (then_total (on_total (λ o. o.inside) bool_total) (on_total (λ o. o.again) bool_total)))))

pub disputed_place_total : IsTotalOrder disputed_place_cmp
disputed_place_total = then_total (on_total (λ d. reason_rank d.reason) nat_cmp_total)
    (then_total (on_total (λ d. d.place) nat_cmp_total) (on_total (λ d. d.source) (options_total nat_cmp_total)))
