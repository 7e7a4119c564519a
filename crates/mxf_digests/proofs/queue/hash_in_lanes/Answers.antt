use Rattle.std.proofs.Common.{◌≡◌, ◌∙◌, ap, arith, length, length-set, map, slice_index, sym, List, ℕ}
use Rattle.std.proofs.lemmas.List.{get_or-set_other, length-map}
use Rattle.mxf_digests.proofs.QueueLemmas.{first_filled, least_of, still_idle}
use Rattle.mxf_digests.proofs.queue.hash_in_lanes.Goals as goal

pub places-preserved : goal.places-preserved
places-preserved g c =
    let ms = map g.V.AsSlice.items c.args.values.now in
    let long : length ms ≡ length c.args.values.now = length-map c.args.values.now g.V.AsSlice.items in
    let place = c.places.place in
    record {
      values = ap length c.begin.ensures.value ∙ length-set c.places.lanes.value place c.places.next
          ∙ c.places.invariant.values;
      counts = ap length c.begin.ensures.done ∙ length-set c.places.lanes.done place 0 ∙ c.places.invariant.counts;
      hashing =
          first_filled ms c.places.lanes c.begin.new.self c.places.state c.begin.new.state place c.places.next
          c.min-next.result c.args.digests.now
          (least_of c.places.next _ _ c.min-next.result long c.min-next.ensures) c.places-test.true
          c.places.invariant.values c.places.invariant.counts
          c.places.invariant.hashing (c.places.invariant.idle place (omega arith) c.places-test.true ∙ sym long)
          c.begin.ensures.value c.begin.ensures.done c.begin.ensures.begun c.begin.ensures.others;
      idle = λ j high small.
          ap (λ (x : List ℕ). slice_index x j) c.begin.ensures.value
          ∙ get_or-set_other c.places.lanes.value place j c.places.next 0 (still_idle j place high)
          ∙ c.places.invariant.idle j (omega arith) small;
    }
