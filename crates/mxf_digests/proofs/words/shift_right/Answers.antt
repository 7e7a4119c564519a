use Rattle.mxf_digests.proofs.LaneLemmas.{shifted_right}
use Rattle.mxf_digests.proofs.words.shift_right.Goals as goal

pub returns : goal.returns
returns c = shifted_right c.args.count c.requires c.args.x c.fits-x.0
