-- Fills that follow one another, and how one goes on over them (ST 377-1, fill items; this project's profile).
use Rattle.std.specs.Prelude.{ℕ, ◌==◌, if◌then◌else◌, Option, None, Some, unwrap_or, List, [], ◌∷◌}
use Rattle.std.specs.List.{filter_map}
use Rattle.std.specs.Ordering.{nat_cmp}
use Rattle.std.specs.BTreeMap.{BTreeMap, get}
use Rattle.mxf_klv.specs.Parts.{NoteParts}
use Rattle.mxf_klv.specs.Note.{end_of}
use Rattle.mxf_klv.specs.Kind.{kind_of}
use Rattle.mxf_views.specs.Copies.{is_fill}
use Rattle.mxf_places.specs.declared.fills.Fill.{Fill}

-- The fill that a note is.
unfoldable pub fill_at : NoteParts → Option Fill
fill_at n = if is_fill (kind_of n.key) then Some (record { start = n.offset; end = end_of n }) else None

abbrev pub fills_among : List NoteParts → List Fill
fills_among notes = filter_map fill_at notes

-- Going over fills in their order.
abbrev pub over_list : List Fill → ℕ → ℕ
over_list [] x = x
over_list (f ∷ fills) x = over_list fills (if f.start == x then f.end else x)

-- The same by a table that has, for the start of each fill, where one comes to.
abbrev pub over_in : BTreeMap ℕ ℕ → ℕ → ℕ
over_in ends x = unwrap_or (get nat_cmp ends x) x
