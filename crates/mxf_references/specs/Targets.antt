-- What references in header metadata lead to (ST 377-1, strong references), in one copy.
use Rattle.std.specs.Prelude.{◌≡◌, ℕ, ◌⊎◌, Bool, true, false, not, ◌&&◌, if◌then◌else◌, List, [], ◌∷◌, map, filter}
use Rattle.std.specs.Prelude.{is_ok}
use Rattle.mxf_klv.specs.declared.kinds.Kind.{Kind}
use Rattle.mxf_klv.specs.Parts.{NoteParts}
use Rattle.mxf_klv.specs.Note.{keeps_value}
use Rattle.mxf_klv.specs.Kind.{kind_of}
use Rattle.mxf_sets.specs.Storage.{storage_at}
use Rattle.mxf_sets.specs.Identification.{identification_at}
use Rattle.mxf_sets.specs.Package.{package_at}
use Rattle.mxf_references.specs.declared.reference.target.Wanted.{Wanted}
use Rattle.mxf_references.specs.declared.reference.target.Wanted.TheVariants.{Storage, Identification, Package}
use Rattle.mxf_references.specs.declared.reference.target.Target.{Target}
use Rattle.mxf_references.specs.declared.reference.target.Target.TheVariants.{Missing, Several, WrongKind, Unreadable}
use Rattle.mxf_references.specs.declared.reference.target.Target.TheVariants.{Found}
use Rattle.mxf_references.specs.declared.reference.target.Ref.{Ref}
use Rattle.mxf_views.specs.Copies.{sets_of}
use Rattle.mxf_views.specs.Readings.{IsReadable}
use Rattle.mxf_references.specs.References.{IsFound, IsOnlyWith, has_uid}
use Rattle.mxf_klv.specs.declared.kinds.Kind.TheVariants as kinds
use Rattle.mxf_references.specs.declared.reference.Found.TheVariants as found

-- The kind is that of the sets that such a reference names.
abbrev pub fits : Wanted → Kind → Bool
fits Storage kinds.ContentStorage = true
fits Storage _ = false
fits Identification kinds.Identification = true
fits Identification _ = false
fits Package kinds.MaterialPackage = true
fits Package kinds.SourcePackage = true
fits Package _ = false

-- The value can be read as such a set.
abbrev pub is_readable : Wanted → List ℕ → Bool
is_readable Storage bytes = is_ok (storage_at bytes)
is_readable Identification bytes = is_ok (identification_at bytes)
is_readable Package bytes = is_ok (package_at bytes)

-- What the only set with the identifier is.
unfoldable pub target_at : Wanted → NoteParts → Target
target_at wanted n =
    if not (fits wanted (kind_of n.key)) then WrongKind n.offset else
    (if keeps_value n && is_readable wanted n.held then Found n.offset else Unreadable n.offset)

abbrev pub target_among : Wanted → List NoteParts → Target
target_among wanted [] = Missing
target_among wanted (n ∷ []) = target_at wanted n
target_among wanted (m ∷ n ∷ notes) = Several

-- What a reference leads to, among the sets of the copy of a partition.
unfoldable pub target_of : List NoteParts → ℕ → Wanted → List ℕ → Target
target_of notes partition wanted uid = target_among wanted (filter (has_uid uid) (sets_of notes partition))

abbrev pub ref_of : List NoteParts → ℕ → Wanted → List ℕ → Ref
ref_of notes partition wanted uid = record { uid = uid; target = target_of notes partition wanted uid }

-- In the order of their batch, repeated ones too.
abbrev pub refs_of : List NoteParts → ℕ → Wanted → List (List ℕ) → List Ref
refs_of notes partition wanted uids = map (ref_of notes partition wanted) uids

-- The kind is that of the sets that such a reference names.
abbrev pub IsWanted : Wanted → Kind → Type 0
IsWanted Storage kind = kind ≡ kinds.ContentStorage
IsWanted Identification kind = kind ≡ kinds.Identification
IsWanted Package kind = (kind ≡ kinds.MaterialPackage) ⊎ (kind ≡ kinds.SourcePackage)

-- The note keeps its value, which can be read as such a set.
abbrev pub IsReadableAs : Wanted → NoteParts → Type 0
IsReadableAs Storage n = IsReadable storage_at n
IsReadableAs Identification n = IsReadable identification_at n
IsReadableAs Package n = IsReadable package_at n

-- What a reference leads to: no set with the identifier or several; or the only one, at this offset, which is of
-- another kind, or of that kind and not readable, or readable.
abbrev pub IsTarget : List NoteParts → Wanted → List ℕ → Target → Type 0
IsTarget sets wanted uid Missing = IsFound sets uid found.Absent
IsTarget sets wanted uid Several = IsFound sets uid found.Several
IsTarget sets wanted uid (WrongKind offset) =
    (n : NoteParts) × IsOnlyWith sets uid n × (n.offset ≡ offset) × ¬ IsWanted wanted (kind_of n.key)
IsTarget sets wanted uid (Unreadable offset) =
    (n : NoteParts) × IsOnlyWith sets uid n × (n.offset ≡ offset) × IsWanted wanted (kind_of n.key)
    × ¬ IsReadableAs wanted n
IsTarget sets wanted uid (Found offset) =
    (n : NoteParts) × IsOnlyWith sets uid n × (n.offset ≡ offset) × IsWanted wanted (kind_of n.key)
    × IsReadableAs wanted n
