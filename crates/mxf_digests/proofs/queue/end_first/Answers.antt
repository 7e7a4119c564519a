use Rattle.std.proofs.Common.{◌≡◌, arith, length, map}
use Rattle.std.proofs.lemmas.List.{length-map}
use Rattle.mxf_digests.proofs.QueueLemmas.{least_of, value_ended}
use Rattle.mxf_digests.proofs.queue.end_first.Goals as goal

pub returns : goal.returns
returns g c =
    let ms = map g.V.AsSlice.items c.args.values.now in
    let long : length ms ≡ length c.args.values.now = length-map c.args.values.now g.V.AsSlice.items in
    rw c.value-index.ensures
    (value_ended ms c.args.lanes.now c.advance.new.self c.begin.new.self c.args.state.now c.advance.new.state
    c.begin.new.state c.args.digests.now
    c.first_to_end-place.result c.args.next c.min.result c.left-steps.result c.digest_at.result
    (least_of c.args.next _ _ c.min.result long c.min.ensures)
    c.first_to_end-place.ensures.place (omega arith) c.advance.ensures.counts (omega arith)
    (λ j small busy. c.first_to_end-place.ensures.first j small (omega arith) (omega arith)) c.requires
    (c.left-steps.ensures.busy (omega arith))
    c.advance.ensures.value c.advance.ensures.done c.advance.ensures.taken c.digest_at.ensures
    c.begin.ensures.value c.begin.ensures.done c.begin.ensures.begun c.begin.ensures.others)
