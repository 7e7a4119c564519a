use Rattle.std.proofs.Common.{◌≡◌, ℕ, add-zero, arith, map, slice_index}
use Rattle.mxf_digests.specs.Lanes.{lane}
use Rattle.mxf_digests.specs.Queue.{message}
use Rattle.mxf_digests.proofs.LaneLemmas.{below_four}
use Rattle.mxf_digests.proofs.QueueLemmas.{one_step, taken_more}
use Rattle.mxf_digests.proofs.lanes.Lanes.advance.Goals as goal

pub steps-init : goal.steps-init
steps-init g c j low room taken = rw add-zero taken.1

pub steps-preserved : goal.steps-preserved
steps-preserved g c =
    let ms = map g.V.AsSlice.items c.args.values.now in
    let value = λ (j : ℕ). slice_index c.args.self.now.value j in
    let done = λ (j : ℕ). slice_index c.args.self.now.done j in
    below_four _
    (λ room taken. one_step (message ms (value 0)) _ _ (lane 0 c.steps.state) _ (done 0) c.steps.step c.args.steps
    c.value_at-first.ensures.value c.value_at-first.ensures.fits
    c.steps-test.true room c.block_at.ensures (c.steps.invariant 0 (omega arith) room taken)
    (c.compress.ensures 0 (omega arith)))
    (λ room taken. one_step (message ms (value 1)) _ _ (lane 1 c.steps.state) _ (done 1) c.steps.step c.args.steps
    c.value_at-second.ensures.value c.value_at-second.ensures.fits
    c.steps-test.true room c.block_at-in-steps.ensures (c.steps.invariant 1 (omega arith) room taken)
    (c.compress.ensures 1 (omega arith)))
    (λ room taken. one_step (message ms (value 2)) _ _ (lane 2 c.steps.state) _ (done 2) c.steps.step c.args.steps
    c.value_at-third.ensures.value c.value_at-third.ensures.fits
    c.steps-test.true room c.block_at-in-steps-2.ensures (c.steps.invariant 2 (omega arith) room taken)
    (c.compress.ensures 2 (omega arith)))
    (λ room taken. one_step (message ms (value 3)) _ _ (lane 3 c.steps.state) _ (done 3) c.steps.step c.args.steps
    c.value_at-fourth.ensures.value c.value_at-fourth.ensures.fits
    c.steps-test.true room c.block_at-in-steps-3.ensures (c.steps.invariant 3 (omega arith) room taken)
    (c.compress.ensures 3 (omega arith)))

pub returns-clause-taken : goal.returns-clause-taken
returns-clause-taken g c =
    let ms = map g.V.AsSlice.items c.args.values.now in
    let value = λ (j : ℕ). slice_index c.args.self.now.value j in
    let done = λ (j : ℕ). slice_index c.args.self.now.done j in
    let end : c.steps.step ≡ c.args.steps = omega arith in
    below_four _
    (λ room held is. taken_more (message ms (value 0)) _ _ (done 0) c.steps.step c.args.steps
    c.value_at-first.ensures.value c.value_at-first.ensures.fits end room
    (c.steps.invariant 0 (omega arith) room (held is)))
    (λ room held is. taken_more (message ms (value 1)) _ _ (done 1) c.steps.step c.args.steps
    c.value_at-second.ensures.value c.value_at-second.ensures.fits end room
    (c.steps.invariant 1 (omega arith) room (held is)))
    (λ room held is. taken_more (message ms (value 2)) _ _ (done 2) c.steps.step c.args.steps
    c.value_at-third.ensures.value c.value_at-third.ensures.fits end room
    (c.steps.invariant 2 (omega arith) room (held is)))
    (λ room held is. taken_more (message ms (value 3)) _ _ (done 3) c.steps.step c.args.steps
    c.value_at-fourth.ensures.value c.value_at-fourth.ensures.fits end room
    (c.steps.invariant 3 (omega arith) room (held is)))
