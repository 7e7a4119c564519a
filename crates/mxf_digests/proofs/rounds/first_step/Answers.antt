use Rattle.std.proofs.Common.{refl, sym}
use Rattle.sha2.proofs.Schedule256.{rounds_first}
use Rattle.mxf_digests.proofs.LaneLemmas.{word_of_lane}
use Rattle.mxf_digests.specs.Lanes.{lane}
use Rattle.mxf_digests.proofs.rounds.first_step.Goals as goal

pub returns : goal.returns
returns c j b h low window held =
    let w = lane j c.args.window.now in
    rounds_first b h w (lane j c.args.working) c.args.number _ _ _ c.requires window held refl
    (sym (word_of_lane c.args.window.now j c.args.number))
    (c.round.ensures j low)
