-- The runs so far with a last one, and the places so far, with those of the units to come.
use Rattle.mxf_views.proofs.Common.{◌≡◌, ◌++◌, ◌+◌, ◌-◌, filter_map, range_with_len}
use Rattle.mxf_units.specs.Units.{unit_of}
use Rattle.mxf_verify.specs.Fixities.{IsFixityOf, place_of, places_of}
use Rattle.mxf_verify.proofs.UnitRunLaws.{AreUnitsSoFar}
use Rattle.mxf_verify.proofs.verified_units.gathered.Given as goal

abbrev pub invariant-loop-number : goal.invariant-loop-number
invariant-loop-number l = AreUnitsSoFar
    (λ unit fixity. IsFixityOf l.verified l.altered (unit_of l.units.known l.units.index_sid unit) fixity)
    l.from l.to l.number l.runs.items l.last
    × (l.places.items ++ filter_map (λ unit. place_of (unit_of l.units.known l.units.index_sid unit))
    (range_with_len l.number (l.to + 1 - l.number)) ≡ places_of l.units.known l.units.index_sid l.from l.to)
