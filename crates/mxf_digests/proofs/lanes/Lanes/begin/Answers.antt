use Rattle.std.proofs.Common.{refl, arith}
use Rattle.mxf_digests.proofs.LaneLemmas.{lane_of_eight}
use Rattle.mxf_digests.proofs.lanes.Lanes.begin.Goals as goal

pub returns-clause-others : goal.returns-clause-others
returns-clause-others c j h =
    rw (
      lane_of_eight c.args.state.now j (omega arith),
      c.with_word.ensures.others j h,
      c.with_word-2.ensures.others j h,
      c.with_word-3.ensures.others j h,
      c.with_word-4.ensures.others j h,
      c.with_word-5.ensures.others j h,
      c.with_word-6.ensures.others j h,
      c.with_word-7.ensures.others j h,
      c.with_word-8.ensures.others j h,
    ) refl
