-- What the Preface of the preferred copy names (ST 377-1, Preface and Content Storage sets, strong references; what
-- stands if a set can't be read is this project's profile).
use Rattle.std.specs.Prelude.{◌≡◌, ℕ, ◌⊎◌, Option, Some, None, List, [], ◌∷◌}
use Rattle.mxf_klv.specs.declared.kinds.Kind.TheVariants as kinds
use Rattle.mxf_klv.specs.Parts.{NoteParts}
use Rattle.mxf_klv.specs.Kind.{kind_of}
use Rattle.mxf_sets.specs.Preface.{PrefaceParts, preface_at}
use Rattle.mxf_sets.specs.Storage.{StorageParts, storage_at}
use Rattle.mxf_views.specs.declared.copy.CopyInfo.{CopyInfo}
use Rattle.mxf_references.specs.declared.reference.target.Ref.{Ref}
use Rattle.mxf_references.specs.declared.reference.target.Wanted.{Wanted}
use Rattle.mxf_references.specs.declared.reference.target.Wanted.TheVariants.{Storage, Identification, Package}
use Rattle.mxf_views.specs.Copies.{IsBest, IsPreferred, IsSetOf, copies_of, sets_of}
use Rattle.mxf_views.specs.Readings.{IsReadable, IsReadAs}
use Rattle.mxf_references.specs.References.{IsOnlyWith}
use Rattle.mxf_references.specs.Resolved.{ResolvedParts}
use Rattle.mxf_references.specs.Targets.{IsTarget}

-- The reference has the identifier, and its target is what that leads to in the copy of the partition.
pub record IsRefOf (notes : List NoteParts) (partition : ℕ) (wanted : Wanted) (uid : List ℕ) (ref : Ref) : Type 0 where
  pub own : ref.uid ≡ uid
  pub target : IsTarget (sets_of notes partition) wanted uid ref.target

-- The references are those of the identifiers, one for each, in their order.
abbrev pub AreRefsOf : List NoteParts → ℕ → Wanted → List (List ℕ) → List Ref → Type 0
AreRefsOf notes partition wanted [] [] = Unit {0}
AreRefsOf notes partition wanted [] (ref ∷ refs) = ⊥
AreRefsOf notes partition wanted (uid ∷ uids) [] = ⊥
AreRefsOf notes partition wanted (uid ∷ uids) (ref ∷ refs) =
    IsRefOf notes partition wanted uid ref × AreRefsOf notes partition wanted uids refs

-- The note is the only Preface among the sets of the copy of the partition.
pub record IsOnlyPreface (notes : List NoteParts) (partition : ℕ) (n : NoteParts) : Type 0 where
  pub set : IsSetOf notes partition n
  pub kind : kind_of n.key ≡ kinds.Preface
  pub only : (m : NoteParts) → IsSetOf notes partition m → kind_of m.key ≡ kinds.Preface → m ≡ n

-- The only set of the copy with the identifier is a ContentStorage, and this is the one that its value is.
pub record IsStorage (notes : List NoteParts) (partition : ℕ) (uid : List ℕ) (storage : StorageParts) : Type 0 where
  pub note : NoteParts
  pub only : IsOnlyWith (sets_of notes partition) uid note
  pub kind : kind_of note.key ≡ kinds.ContentStorage
  pub read : IsReadAs storage_at note storage

-- The references to packages are those of the storage with the identifier, or none if there is no such storage.
abbrev pub ArePackages : List NoteParts → ℕ → List ℕ → List Ref → Type 0
ArePackages notes partition uid refs =
    ((storage : StorageParts) × IsStorage notes partition uid storage
    × AreRefsOf notes partition Package storage.packages refs)
    ⊎ (((storage : StorageParts) → ¬ IsStorage notes partition uid storage) × (refs ≡ []))

-- What a Preface names, and the packages that its storage names.
pub record AreNamed (notes : List NoteParts) (preface : PrefaceParts) (r : ResolvedParts) : Type 0 where
  pub storage : (ref : Ref) × (r.storage ≡ Some ref)
      × IsRefOf notes r.partition Storage preface.content_storage ref
  pub identifications : AreRefsOf notes r.partition Identification preface.identifications r.identifications
  pub packages : ArePackages notes r.partition preface.content_storage r.packages

-- Nothing is named.
pub record AreNone (r : ResolvedParts) : Type 0 where
  pub storage : r.storage ≡ None
  pub identifications : r.identifications ≡ []
  pub packages : r.packages ≡ []

-- What is named by the note of a Preface: nothing if it isn't kept or can't be read.
abbrev pub AreNamedBy : List NoteParts → NoteParts → ResolvedParts → Type 0
AreNamedBy notes n r =
    ((preface : PrefaceParts) × IsReadAs preface_at n preface × AreNamed notes preface r)
    ⊎ ((¬ IsReadable preface_at n) × AreNone r)

-- The partition is that of the preferred copy, the Preface is the only one of that copy, and this is what it names.
pub record IsResolvedFrom (notes : List NoteParts) (r : ResolvedParts) : Type 0 where
  pub copy : CopyInfo
  pub preferred : IsBest (copies_of notes) copy
  pub partition : r.partition ≡ copy.partition
  pub note : NoteParts
  pub one : IsOnlyPreface notes r.partition note
  pub preface : r.preface ≡ note.offset
  pub named : AreNamedBy notes note r

-- The same, or none if no copy is preferred.
abbrev pub IsResolved : List NoteParts → Option ResolvedParts → Type 0
IsResolved notes None = IsPreferred (copies_of notes) None
IsResolved notes (Some r) = IsResolvedFrom notes r
