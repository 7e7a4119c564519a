-- Each half is less than all.
use Rattle.mxf_units.proofs.even_units.EvenUnits.+counts_from.Given as goal

abbrev pub decreases-counts_from : goal.decreases-counts_from
decreases-counts_from l = l.count
