use Rattle.mxf_digests.proofs.LaneLemmas.{shifts_rotate}
use Rattle.mxf_digests.proofs.words.rotate_right.Goals as goal

pub returns : goal.returns
returns c = shifts_rotate c.args.count c.requires.low c.requires.high c.args.x c.fits-x.0
