use Rattle.mxf_units.proofs.LastLaws.{one-last, one-or-none}
use Rattle.mxf_units.proofs.last.one_last_unit.Goals as goal

pub returns : goal.returns
returns c = record { one = one-last; none = one-or-none }
