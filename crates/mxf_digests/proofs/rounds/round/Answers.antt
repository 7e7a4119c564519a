use Rattle.std.proofs.Common.{refl}
use Rattle.mxf_digests.proofs.LaneLemmas.{same_in_each, word_of_lane}
use Rattle.mxf_digests.proofs.rounds.round.Goals as goal

pub returns : goal.returns
returns c j h =
    let v = c.args.working in
    rw (
      word_of_lane v j 0,
      word_of_lane v j 1,
      word_of_lane v j 2,
      word_of_lane v j 3,
      word_of_lane v j 4,
      word_of_lane v j 5,
      word_of_lane v j 6,
      word_of_lane v j 7,
      c.add-2.ensures j h,
      c.add-3.ensures j h,
      c.add-second.ensures j h,
      c.maj.ensures j h,
      c.big_sigma0.ensures j h,
      c.add-first.ensures j h,
      c.add.ensures j h,
      c.add-with_choice.ensures j h,
      c.ch.ensures j h,
      c.add-with_sigma.ensures j h,
      c.big_sigma1.ensures j h,
      same_in_each c.args.constant j h,
    )
    refl
