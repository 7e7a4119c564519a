use Rattle.mxf_skim.proofs.HeadsRead.{all_preferred}
use Rattle.mxf_skim.proofs.preferring.prefer_read.Goals as goal

pub returns-then-is_empty : goal.returns-then-is_empty
returns-then-is_empty c = all_preferred c.args.catalogue c.in_ok-read.read c.in_ok-read.ensures
    (c.is_empty.ensures.0 c.if-is_empty.true)
