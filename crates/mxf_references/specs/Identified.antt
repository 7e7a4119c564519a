-- The sets of a copy by their instance identifiers (this project's profile).
use Rattle.std.specs.Prelude.{◌≡◌, ℕ, Bool, Option, List, [], ◌∷◌, filter, map}
use Rattle.std.specs.List.Sorted.{IsSortedByKey}
use Rattle.std.specs.Option.{option_map}
use Rattle.std.specs.Ordering.{is_lt, nat_cmp}
use Rattle.std.specs.Cmp.Lexicographic.{slice_cmp}
use Rattle.std.specs.Str.{bytes_eq}
use Rattle.mxf_klv.specs.Parts.{NoteParts}
use Rattle.mxf_sets.specs.Instance.{instance_uid_at}
use Rattle.mxf_sets.specs.Readable.{read_as}
use Rattle.mxf_references.specs.declared.reference.Found.{Found}
use Rattle.mxf_references.specs.declared.reference.Found.TheVariants.{Absent, One, Several}
use Rattle.mxf_references.specs.declared.reference.identified.Identified.{Identified}
use Rattle.mxf_references.specs.Readable.{is_unreadable}
use Rattle.mxf_references.specs.References.{found_among, has_uid}

-- The set with its instance identifier, if it is kept and the identifier can be read.
abbrev pub with_uid : NoteParts → Option Identified
with_uid n = option_map (λ uid. record { uid = uid; offset = n.offset }) (read_as instance_uid_at n)

-- It has the identifier.
abbrev pub is_of : List ℕ → Identified → Bool
is_of uid e = bytes_eq e.uid uid

-- Its identifier stands below the other in the order of their bytes.
abbrev pub is_below : List ℕ → Identified → Bool
is_below uid e = is_lt (slice_cmp nat_cmp e.uid uid)

-- They rise by their identifiers, and one identifier can stand more than once.
abbrev pub AreSorted : List Identified → Type 0
AreSorted es = IsSortedByKey (λ (e : Identified). e.uid) (slice_cmp nat_cmp) es

-- None, the one at this offset, or more.
abbrev pub found_at : List ℕ → Found
found_at [] = Absent
found_at (offset ∷ []) = One offset
found_at (offset ∷ other ∷ offsets) = Several

-- They are sorted, and for each identifier the same is found among them as among the sets: none, one, at the same
-- offset, or more.
pub record AreByUid (sets : List NoteParts) (es : List Identified) : Type 0 where
  pub sorted : AreSorted es
  pub found : (uid : List ℕ) → found_at (map (λ e. e.offset) (filter (is_of uid) es))
      ≡ found_among (filter (has_uid uid) sets)

-- Where those stand that can't be read as what their kinds say.
abbrev pub unreadable_offsets : List NoteParts → List ℕ
unreadable_offsets sets = map (λ n. n.offset) (filter is_unreadable sets)

-- The sets of the copy of a partition.
pub record CopySetsParts : Type 0 where
  pub notes : List NoteParts
  pub partition : ℕ
