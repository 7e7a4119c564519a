use Rattle.std.proofs.Common.{◌≡◌, ◌↔◌, ◌+◌, arith, nat_lt, refl, subst, sym, true}
use Rattle.mxf_units.specs.declared.essence_zone.part.StreamPart.{StreamPart}
use Rattle.mxf_views.specs.declared.index.place.StreamPlace.{StreamPlace}
use Rattle.mxf_partial.specs.InStreams.{HasNoneFrom, IsFirstFrom}
use Rattle.mxf_partial.specs.Streams.{HasNoPartBehind, IsPartBehind}
use Rattle.mxf_partial.specs.Ways.{HasPlace}
use Rattle.mxf_partial.proofs.WayLaws.{by_next, last_place, no_place}
use Rattle.mxf_partial.proofs.ways.has_place.Goals as goal

pub returns-in_default : goal.returns-in_default
returns-in_default c = λ u are order.
    let e = c.from-offset.ensures in
    let none = subst (λ b. HasNoneFrom (λ (p : StreamPlace). p.body_sid) (λ p. p.offset) (λ p. 0) c.args.places.now b
    (c.from-offset.result + 0)) c.from.ensures (c.in_default.ensures order) in (
      λ t. absurd cc,
      λ h. absurd (no_place u.known.notes c.args.places.now c.args.part.now (c.from-offset.result + 0)
          (omega (arith, e)) none h),
    )

pub returns-in-Some-beginning_behind : goal.returns-in-Some-beginning_behind
returns-in-Some-beginning_behind c = λ u are order.
    let e = c.from-offset.ensures in
    let first = subst (λ b. IsFirstFrom (λ (p : StreamPlace). p.body_sid) (λ p. p.offset) (λ p. 0) c.args.places.now b
    (c.from-offset.result + 0) c.in-Some.place.now) c.from.ensures (c.in-Some.ensures order) in
    let behind = subst (λ o. (q : StreamPart) × IsPartBehind u.known.notes c.args.part.now.body_sid o q
    × (q.body_offset ≡ c.in-Some-beginning_behind.next)) c.from-offset.ensures
    (c.in-Some-beginning_behind.ensures u are) in
    subst (λ n. (nat_lt c.in-Some.place.now.offset n ≡ true)
    ↔ HasPlace u.known.notes c.args.places.now c.args.part.now) (sym c.from-in-Some-beginning_behind.ensures)
    (by_next u.known.notes c.args.places.now c.args.part.now (c.from-offset.result + 0) (omega (arith, e))
    c.in-Some.place.now c.in-Some-beginning_behind.next first behind)

pub returns-in-None : goal.returns-in-None
returns-in-None c = λ u are order.
    let e = c.from-offset.ensures in
    let first = subst (λ b. IsFirstFrom (λ (p : StreamPlace). p.body_sid) (λ p. p.offset) (λ p. 0) c.args.places.now b
    (c.from-offset.result + 0) c.in-Some.place.now) c.from.ensures (c.in-Some.ensures order) in
    let none = subst (HasNoPartBehind u.known.notes c.args.part.now.body_sid) c.from-offset.ensures
    (c.in-None.ensures u are) in (
      λ t. last_place u.known.notes c.args.places.now c.args.part.now (c.from-offset.result + 0) (omega (arith, e))
          c.in-Some.place.now first none,
      λ h. refl,
    )
