use Rattle.std.proofs.Common.{◌≡◌, ◌<◌, ◌≤◌, arith}
use Rattle.mxf_places.specs.AtHand.{LiesBetween}
use Rattle.mxf_partial.specs.NearTable.{rank}
use Rattle.mxf_partial.specs.declared.place_streams.PlaceOf.{PlaceOf}
use Rattle.mxf_partial.proofs.NearLaws.{added_none, added_run}
use Rattle.mxf_partial.proofs.near.add_range.Goals as goal

pub returns-then-start-end : goal.returns-then-start-end
returns-then-start-end c = λ order.
    let r = c.range_of-start.result in
    let none : r.1 ≤ r.0 = omega (arith, c.if-start-end.true) in
    added_none c.args.items.now
    (λ (p : PlaceOf). (rank p.body_sid ≡ rank c.args.body_sid) × LiesBetween c.args.from c.args.end p.place) r.0 r.1
    (c.range_of-start.ensures.places order) c.args.positions.now none

pub returns : goal.returns
returns c = λ order.
    let r = c.range_of-start.result in
    let some : r.0 < r.1 = omega (arith, c.if-start-end.false) in
    added_run c.args.items.now
    (λ (p : PlaceOf). (rank p.body_sid ≡ rank c.args.body_sid) × LiesBetween c.args.from c.args.end p.place) r.0 r.1
    (c.range_of-start.ensures.places order) c.args.positions.now c.add.new.self some c.range_of-start.ensures.bound
    c.in_ok-add.ensures.added
