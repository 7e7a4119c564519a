use Rattle.mxf_progress.proofs.OrderLaws.{inside_lacks}
use Rattle.mxf_progress.proofs.laws.orders_inside_lack_all.Goals as goal

pub returns : goal.returns
returns c at notes o x content hand k = inside_lacks at notes content hand o k x
