-- Places and parts in their order.
use Rattle.mxf_views.proofs.Common.{true, false, None, Some, List, [], refl, ap, IsTotalOrder, options_total}
use Rattle.mxf_views.proofs.Common.{nat_cmp-IsAntisymmetric, Ordering, nat_cmp_total, on_total, then_total, bool_cmp}
use Rattle.mxf_views.proofs.Common.{option_cmp, ties, IsRising, IsRising-union, place_cmp}
use Rattle.mxf_views.specs.declared.index.place.StreamPlace.{StreamPlace}
use Rattle.std.specs.Cmp.{bool_cmp_total}
use Rattle.std.specs.FinMap.{IsAntisymmetric}
use Rattle.mxf_units.specs.Streams.{in_order as places_in_order}
use Rattle.mxf_views.proofs.PlaceLaws.{place_cmp-IsAntisymmetric, place_total}
use Rattle.mxf_units.specs.EssenceZones.{part_cmp, zone_cmp}

-- ---- each is one

one_option : {K : Type 0} {R : K → K → Ordering} → IsAntisymmetric R → IsAntisymmetric (option_cmp R)
one_option one None None e = refl
one_option one None (Some y) e = absurd cc
one_option one (Some x) None e = absurd cc
one_option one (Some x) (Some y) e = ap (λ z. Some z) (one x y e)

one_bool : IsAntisymmetric bool_cmp
one_bool false false e = refl
one_bool false true e = absurd cc
one_bool true false e = absurd cc
one_bool true true e = refl

one_zone : IsAntisymmetric zone_cmp
one_zone a b e =
    let p = ties _ _ e in
    let q = ties _ _ p.1 in
    let r = ties _ _ q.1 in
    let body = nat_cmp-IsAntisymmetric a.body_offset b.body_offset p.0 in
    let origin = nat_cmp-IsAntisymmetric a.origin b.origin q.0 in
    let limit = one_option nat_cmp-IsAntisymmetric a.limit b.limit r.0 in
    let sure = one_bool a.is_sure b.is_sure r.1 in
    λ i. record { body_offset = body i; origin = origin i; limit = limit i; is_sure = sure i }

pub one_part : IsAntisymmetric part_cmp
one_part a b e =
    let p = ties _ _ e in
    let q = ties _ _ p.1 in
    let r = ties _ _ q.1 in
    let body = nat_cmp-IsAntisymmetric a.body_sid b.body_sid p.0 in
    let offset = nat_cmp-IsAntisymmetric a.body_offset b.body_offset q.0 in
    let zone = one_option one_zone a.zone b.zone r.0 in
    let partition = nat_cmp-IsAntisymmetric a.partition b.partition r.1 in
    λ i. record { body_sid = body i; body_offset = offset i; zone = zone i; partition = partition i }

zone_total : IsTotalOrder zone_cmp
zone_total = then_total (on_total (λ z. z.body_offset) nat_cmp_total)
    (then_total (on_total (λ z. z.origin) nat_cmp_total)
    (then_total (on_total (λ z. z.limit) (options_total nat_cmp_total)) (on_total (λ z. z.is_sure) bool_cmp_total)))

pub part_total : IsTotalOrder part_cmp
part_total = then_total (on_total (λ p. p.body_sid) nat_cmp_total)
    (then_total (on_total (λ p. p.body_offset) nat_cmp_total)
    (then_total (on_total (λ p. p.zone) (options_total zone_total)) (on_total (λ p. p.partition) nat_cmp_total)))

-- Places in their order rise.
pub places-rise : (xs : List StreamPlace) → IsRising place_cmp (places_in_order xs)
places-rise xs = IsRising-union place_total place_cmp-IsAntisymmetric [] xs tt
