-- Which edit units a note has a byte of, found by going through their places (this project's profile). A law ties this
-- to the relation.
use Rattle.std.specs.Prelude.{◌==◌, ◌&&◌, ◌||◌, if◌then◌else◌, Bool, List, [], ◌∷◌, max, min, nat_lt, Option, None}
use Rattle.std.specs.Prelude.{Some}
use Rattle.mxf_klv.specs.Note.{covered_end}
use Rattle.mxf_klv.specs.Parts.{NoteParts}
use Rattle.mxf_units.specs.Units.{asked_end}
use Rattle.mxf_verify.specs.declared.unit_places.UnitPlace.{UnitPlace}
use Rattle.mxf_verify.specs.declared.unit_places.UnitSpan.{UnitSpan}

-- The note holds a byte of the place.
abbrev pub is_touched : NoteParts → UnitPlace → Bool
is_touched n p = nat_lt (max n.offset p.extent.start) (min (covered_end n) (asked_end p.extent))

-- The first begins before the second, or both begin there and its unit is the lesser.
abbrev pub begins_before : UnitPlace → UnitPlace → Bool
begins_before p q = nat_lt p.extent.start q.extent.start || (p.extent.start == q.extent.start && nat_lt p.unit q.unit)

-- The first ends after the second, or both end there and its unit is the greater.
abbrev pub ends_behind : UnitPlace → UnitPlace → Bool
ends_behind p q =
    nat_lt (asked_end q.extent) (asked_end p.extent)
    || (asked_end p.extent == asked_end q.extent && nat_lt q.unit p.unit)

-- The place, or another if that goes before it.
abbrev pub chosen : (UnitPlace → UnitPlace → Bool) → UnitPlace → Option UnitPlace → UnitPlace
chosen goes_before p None = p
chosen goes_before p (Some q) = if goes_before q p then q else p

-- Of the places that a note touches, the one that none goes before.
abbrev pub first_touched : (UnitPlace → UnitPlace → Bool) → NoteParts → List UnitPlace → Option UnitPlace
first_touched goes_before n [] = None
first_touched goes_before n (p ∷ places) =
    if is_touched n p then Some (chosen goes_before p (first_touched goes_before n places)) else
    first_touched goes_before n places

abbrev pub span_of : Option UnitPlace → Option UnitPlace → Option UnitSpan
span_of None q = None
span_of (Some p) None = None
span_of (Some p) (Some q) = Some (record { first = p.unit; last = q.unit })

-- The unit with the first of the places that the note touches by its beginning, and the one with the last by its end.
unfoldable pub units_touched : List UnitPlace → NoteParts → Option UnitSpan
units_touched places n = span_of (first_touched begins_before n places) (first_touched ends_behind n places)
