use Rattle.mxf_restore.proofs.MissingLaws.{none_held}
use Rattle.mxf_restore.proofs.plan.orders_are_missing.Goals as goal

pub returns : goal.returns
returns c at notes o x content = none_held at notes content o x
