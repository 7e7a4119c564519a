use Rattle.std.proofs.Common.{◌≡◌, ◌+◌, ◌%◌, refl, arith}
use Rattle.mxf_digests.proofs.LaneLemmas.{word_of_lane}
use Rattle.mxf_digests.proofs.rounds.next_word.Goals as goal

pub returns-clause-value : goal.returns-clause-value
returns-clause-value c j h =
    let w = c.args.window.now in
    let place = c.args.place in
    let at : place % 16 ≡ place = omega arith in
    rw (
      at,
      word_of_lane w j ((place + 14) % 16),
      word_of_lane w j ((place + 9) % 16),
      word_of_lane w j ((place + 1) % 16),
      word_of_lane w j place,
      c.add-word.ensures j h,
      c.add-2.ensures j h,
      c.add.ensures j h,
      c.small_sigma1-two_before.ensures j h,
      c.small_sigma0-fifteen_before.ensures j h,
    ) refl
