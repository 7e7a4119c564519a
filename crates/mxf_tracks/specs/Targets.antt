-- What the references from package to component lead to (ST 377-1, strong references; that each set is followed once is
-- this project's profile), in one copy of the header metadata.
use Rattle.std.specs.Prelude.{◌==◌, ℕ, Bool, true, false, not, if◌then◌else◌, List, [], ◌∷◌, filter, Result, Ok, Err}
use Rattle.std.specs.List.{list_any}
use Rattle.std.specs.Ordering.{nat_cmp}
use Rattle.mxf_klv.specs.declared.kinds.Kind.{Kind}
use Rattle.mxf_klv.specs.declared.kinds.Kind.TheVariants as kinds
use Rattle.mxf_klv.specs.Parts.{NoteParts}
use Rattle.mxf_klv.specs.Kind.{kind_of}
use Rattle.mxf_klv.specs.Rising.{with_one}
use Rattle.mxf_references.specs.References.{has_uid}
use Rattle.mxf_tracks.specs.declared.target.Target.{Target}
use Rattle.mxf_tracks.specs.declared.target.Target.TheVariants.{Missing, Several, WrongKind, Other, Again}
use Rattle.mxf_tracks.specs.declared.target.Wanted.{Wanted}
use Rattle.mxf_tracks.specs.Keys.{fits}

-- A raw set.
abbrev pub is_raw : Kind → Bool
is_raw kinds.RawSet = true
is_raw _ = false

-- The offset is one of those of the sets that were reached.
abbrev pub is_reached : ℕ → List ℕ → Bool
is_reached offset reached = list_any (λ o. o == offset) reached

-- The offsets of the sets that were reached, with one more in its place.
abbrev pub with_reached : ℕ → List ℕ → List ℕ
with_reached offset reached = with_one nat_cmp offset reached

-- What the only set with the identifier is to a reference, where some sets were reached before it: the set itself, to
-- be read, or the first row of the table of targets that fits.
unfoldable pub set_at : Wanted → List ℕ → NoteParts → Result NoteParts Target
set_at wanted reached n =
    if not (is_raw (kind_of n.key)) then Err (WrongKind n.offset)
    else (if not (fits wanted n.key) then Err (Other n.offset)
    else (if is_reached n.offset reached then Err (Again n.offset) else Ok n))

abbrev pub set_among : Wanted → List ℕ → List NoteParts → Result NoteParts Target
set_among wanted reached [] = Err Missing
set_among wanted reached (n ∷ []) = set_at wanted reached n
set_among wanted reached (m ∷ n ∷ notes) = Err Several

-- What a reference leads to among the sets of a copy: a set to be read, or a target that ends there.
unfoldable pub set_of : List NoteParts → Wanted → List ℕ → List ℕ → Result NoteParts Target
set_of sets wanted reached uid = set_among wanted reached (filter (has_uid uid) sets)
