use Rattle.mxf_views.proofs.Common.{◌-◌, arith, length, nat_lt, ltb-true}
use Rattle.mxf_views.proofs.KeyedLists.{last_tells}
use Rattle.mxf_views.proofs.kept.keyed.any_above.Goals as goal

pub returns-in-Some : goal.returns-in-Some
returns-in-Some g c = grind (arith, length, ltb-true, nat_lt, last_tells)
