use Rattle.std.proofs.Common.{◌∙◌, ◌+◌, ◌<◌, ap, arith, length, subst, sym}
use Rattle.mxf_partial.proofs.PlaceLaws.{Placed, placed_all, placed_push, placed_skip}
use Rattle.mxf_partial.proofs.place_streams.of_streams.Goals as goal
use Rattle.mxf_partial.proofs.place_streams.of_streams.Goals.{in-Some+in_ok-push, in_default}

pub loop-place-preserved : goal.loop-place-preserved
loop-place-preserved c = λ notes are.
    let l : c.loop-place.place-index < length c.args.places.now = omega (arith, c.loop-place-test.true) in
    elim c.match-stream_of.branch [
      | in-Some+in_ok-push w ↦ placed_push notes c.args.places.now c.loop-place.place-index c.loop-place.items.items _
          (c.loop-place.invariant notes are) l w.in-Some.body_sid c.match-stream_of.items.items
          (w.in-Some.ensures notes are) (ap (λ v. v.items) w.items-is ∙ w.in_ok-push.ensures.items)
      | in_default w ↦
          subst (Placed notes c.args.places.now (c.loop-place.place-index + 1)) (sym (ap (λ v. v.items) w.items-is))
          (placed_skip notes c.args.places.now c.loop-place.place-index c.loop-place.items.items _
          (c.loop-place.invariant notes are) l (w.in_default.ensures notes are))
    ]

pub returns : goal.returns
returns c = λ notes are.
    placed_all notes c.args.places.now c.loop-place.place-index c.loop-place.items.items c.sort_once.new.items.items
    (omega (arith, c.loop-place-test.false)) (c.loop-place.invariant notes are) c.sort_once.ensures.members
    c.sort_once.ensures.rising
