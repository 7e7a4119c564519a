-- Edit units one after another, and those that they need (this project's profile; a key frame is what an entry names,
-- ST 377-1, Index Table Segment).
use Rattle.std.specs.Prelude.{ℕ, ◌+◌, ◌-◌, min, List, [], ◌∷◌, map}
use Rattle.std.specs.List.{filter_map, range_with_len}
use Rattle.mxf_units.specs.Units.{UnitsParts, unit_of}
use Rattle.mxf_units.specs.declared.unit.EditUnit.{EditUnit}

-- The units of an index from one on.
abbrev pub units_from : UnitsParts → ℕ → ℕ → List EditUnit
units_from u first count = map (unit_of u.known u.index_sid) (range_with_len first count)

-- The least of a number and others.
abbrev pub least_of : ℕ → List ℕ → ℕ
least_of x [] = x
least_of x (y ∷ ys) = least_of (min x y) ys

-- The first unit that some need: theirs, or the least of the key frames that they name.
abbrev pub needed_from : ℕ → List EditUnit → ℕ
needed_from first units = least_of first (filter_map (λ u. u.key) units)

-- The units of a range, and those before them from the least key frame on that they name.
abbrev pub units_with_keys : UnitsParts → ℕ → ℕ → List EditUnit
units_with_keys u first count =
    let from = needed_from first (units_from u first count) in units_from u from (first - from + count)
