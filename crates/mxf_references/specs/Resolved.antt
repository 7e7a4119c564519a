-- The references of the preferred copy's Preface and storage (ST 377-1, Preface and Content Storage sets).
use Rattle.std.specs.Prelude.{ℕ, if◌then◌else◌, Option, Some, None, List, [], ◌∷◌, filter, find}
use Rattle.std.specs.Option.{option_map}
use Rattle.mxf_klv.specs.Parts.{NoteParts}
use Rattle.mxf_sets.specs.Readable.{read_as}
use Rattle.mxf_klv.specs.Kind.{kind_of}
use Rattle.mxf_sets.specs.Preface.{PrefaceParts, preface_at}
use Rattle.mxf_sets.specs.Storage.{StorageParts, storage_at}
use Rattle.mxf_views.specs.declared.copy.CopyInfo.{CopyInfo}
use Rattle.mxf_references.specs.declared.reference.target.Ref.{Ref}
use Rattle.mxf_references.specs.declared.reference.target.Wanted.TheVariants.{Storage, Identification, Package}
use Rattle.mxf_views.specs.Copies.{copies_of, preferred_of, is_preface_note, sets_of}
use Rattle.mxf_references.specs.References.{has_uid}
use Rattle.mxf_references.specs.Targets.{fits, ref_of, refs_of}

-- What the Preface of a copy names: the storage and the identifications, if it is readable, and what the storage names.
pub record ResolvedParts : Type 0 where
  pub partition : ℕ
  pub preface : ℕ
  pub storage : Option Ref
  pub identifications : List Ref
  pub packages : List Ref

-- The Preface of a note, if it is kept and readable.
unfoldable pub preface_in : NoteParts → Option PrefaceParts
preface_in n = read_as preface_at n

-- The storage of a note, if it is kept and a readable one.
unfoldable pub storage_in : NoteParts → Option StorageParts
storage_in n = if fits Storage (kind_of n.key) then read_as storage_at n else None

-- The storage, if it is the only set with its identifier and is readable.
abbrev pub storage_among : List NoteParts → Option StorageParts
storage_among (n ∷ []) = storage_in n
storage_among notes = None

-- The references to packages, none if the storage isn't found.
abbrev pub packages_of : Option StorageParts → List (List ℕ)
packages_of None = []
packages_of (Some s) = s.packages

abbrev pub resolved_by : List NoteParts → ℕ → ℕ → Option PrefaceParts → ResolvedParts
resolved_by notes partition preface None = record {
  partition = partition;
  preface = preface;
  storage = None;
  identifications = [];
  packages = [];
}
resolved_by notes partition preface (Some p) = record {
  partition = partition;
  preface = preface;
  storage = Some (ref_of notes partition Storage p.content_storage);
  identifications = refs_of notes partition Identification p.identifications;
  packages = refs_of notes partition Package
      (packages_of (storage_among (filter (has_uid p.content_storage) (sets_of notes partition))));
}

abbrev pub resolved_in : List NoteParts → CopyInfo → Option ResolvedParts
resolved_in notes copy = option_map (λ n. resolved_by notes copy.partition n.offset (preface_in n))
    (find is_preface_note (sets_of notes copy.partition))

abbrev pub resolved_from : List NoteParts → Option CopyInfo → Option ResolvedParts
resolved_from notes None = None
resolved_from notes (Some copy) = resolved_in notes copy

-- None without a preferred copy.
abbrev pub resolved_of : List NoteParts → Option ResolvedParts
resolved_of notes = resolved_from notes (preferred_of (copies_of notes))
