use Rattle.std.proofs.Common.{refl}
use Rattle.mxf_digests.proofs.LaneLemmas.{word_of_lane}
use Rattle.mxf_digests.proofs.rounds.add_states.Goals as goal

pub returns : goal.returns
returns c j h =
    let x = c.args.x.now in
    let y = c.args.y.now in
    rw (
      word_of_lane x j 0,
      word_of_lane x j 1,
      word_of_lane x j 2,
      word_of_lane x j 3,
      word_of_lane x j 4,
      word_of_lane x j 5,
      word_of_lane x j 6,
      word_of_lane x j 7,
      word_of_lane y j 0,
      word_of_lane y j 1,
      word_of_lane y j 2,
      word_of_lane y j 3,
      word_of_lane y j 4,
      word_of_lane y j 5,
      word_of_lane y j 6,
      word_of_lane y j 7,
      c.add.ensures j h,
      c.add-2.ensures j h,
      c.add-3.ensures j h,
      c.add-4.ensures j h,
      c.add-5.ensures j h,
      c.add-6.ensures j h,
      c.add-7.ensures j h,
      c.add-8.ensures j h,
    )
    refl
