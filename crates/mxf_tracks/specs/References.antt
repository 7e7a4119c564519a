-- The references of a walk in their order, and what each leads to, said by the sets of the copy and by the references
-- before it (ST 377-1, strong references; that each set is followed once is this project's profile).
use Rattle.std.specs.Prelude.{◌≡◌, ◌≢◌, ℕ, ◌⊎◌, IsTrue, List, [], ◌∷◌, ◌++◌, map}
use Rattle.std.specs.List.{flat_map}
use Rattle.std.specs.Option.{option_map_or}
use Rattle.mxf_klv.specs.declared.kinds.Kind.TheVariants as kinds
use Rattle.mxf_klv.specs.Parts.{NoteParts}
use Rattle.mxf_klv.specs.Kind.{kind_of}
use Rattle.mxf_klv.specs.Rising.{In}
use Rattle.mxf_sets.specs.Component.{clip_at, timecode_at, filler_at}
use Rattle.mxf_sets.specs.Descriptor.{descriptor_at}
use Rattle.mxf_sets.specs.Sequence.{sequence_at}
use Rattle.mxf_sets.specs.Track.{track_at}
use Rattle.mxf_views.specs.Readings.{IsReadable}
use Rattle.mxf_references.specs.References.{IsFound, IsOnlyWith}
use Rattle.mxf_references.specs.declared.reference.Found.TheVariants as found
use Rattle.mxf_references.specs.Targets.{IsTarget}
use Rattle.mxf_references.specs.declared.reference.target.Target.TheVariants as resolved
use Rattle.mxf_references.specs.declared.reference.target.Wanted.TheVariants as resolving
use Rattle.mxf_tracks.specs.declared.component.Component.{Component}
use Rattle.mxf_tracks.specs.declared.descriptor.DescriptorAt.{DescriptorAt}
use Rattle.mxf_tracks.specs.declared.descriptor.SubdescriptorAt.{SubdescriptorAt}
use Rattle.mxf_tracks.specs.declared.package.FoundPackage.{FoundPackage}
use Rattle.mxf_tracks.specs.declared.package.PackageAt.{PackageAt}
use Rattle.mxf_tracks.specs.declared.sequence.SequenceAt.{SequenceAt}
use Rattle.mxf_tracks.specs.declared.target.Target.{Target}
use Rattle.mxf_tracks.specs.declared.target.Target.TheVariants.{Missing, Several, WrongKind, Other, Again}
use Rattle.mxf_tracks.specs.declared.target.Target.TheVariants.{Unreadable, Found}
use Rattle.mxf_tracks.specs.declared.target.Wanted.{Wanted}
use Rattle.mxf_tracks.specs.declared.target.Wanted.TheVariants as wanted
use Rattle.mxf_tracks.specs.declared.track.TrackAt.{TrackAt}
use Rattle.mxf_tracks.specs.Keys.{is_clip, is_filler, is_sequence, is_timecode, is_track}

-- What a reference names: a package, or a set below one.
pub data Named : Type 0 where
  Package : Named
  Below : Wanted → Named

-- A reference, with the identifier that it names, and what it leads to.
pub record Reference : Type 0 where
  pub named : Named
  pub uid : List ℕ
  pub target : Target

-- ---- In the order of the walk

abbrev pub to_package : List ℕ → Target → Reference
to_package uid target = record { named = Package; uid = uid; target = target }

abbrev pub to_set : Wanted → List ℕ → Target → Reference
to_set w uid target = record { named = Below w; uid = uid; target = target }

abbrev pub references_of_components : List Component → List Reference
references_of_components components = map (λ c. to_set wanted.Component c.uid c.target) components

abbrev pub references_of_sequence : SequenceAt → List Reference
references_of_sequence s =
    to_set wanted.Sequence s.uid s.target ∷ option_map_or (λ f. references_of_components f.components) s.found []

abbrev pub references_of_track : TrackAt → List Reference
references_of_track t =
    to_set wanted.Track t.uid t.target ∷ option_map_or (λ f. references_of_sequence f.sequence) t.found []

abbrev pub references_of_parts : List SubdescriptorAt → List Reference
references_of_parts parts = map (λ d. to_set wanted.Descriptor d.uid d.target) parts

abbrev pub references_of_descriptor : DescriptorAt → List Reference
references_of_descriptor d =
    to_set wanted.Descriptor d.uid d.target ∷ option_map_or (λ f. references_of_parts f.subdescriptors) d.found []

abbrev pub references_of_found : FoundPackage → List Reference
references_of_found f =
    flat_map references_of_track f.tracks ++ option_map_or references_of_descriptor f.descriptor []

abbrev pub references_of_package : PackageAt → List Reference
references_of_package p =
    to_package p.uid p.target ∷ option_map_or references_of_found p.found []

-- All of them, each before those of what is found behind it.
abbrev pub references_of : List PackageAt → List Reference
references_of packages = flat_map references_of_package packages

-- ---- What each leads to

-- The reference reached the set at this offset. A package that can't be read isn't reached.
abbrev pub Reaches : ℕ → Named → Target → Type 0
Reaches offset named (Found o) = o ≡ offset
Reaches offset named (Again o) = o ≡ offset
Reaches offset (Below w) (Unreadable o) = o ≡ offset
Reaches offset named target = ⊥

-- One of the references reached the set at this offset.
abbrev pub IsReached : ℕ → List Reference → Type 0
IsReached offset before = (r : Reference) × In r before × Reaches offset r.named r.target

-- The key is that of a set that the reference wants; any will do as a descriptor.
abbrev pub HasKey : Wanted → List ℕ → Type 0
HasKey wanted.Track key = IsTrue (is_track key)
HasKey wanted.Sequence key = IsTrue (is_sequence key)
HasKey wanted.Component key = IsTrue (is_clip key) ⊎ IsTrue (is_timecode key) ⊎ IsTrue (is_filler key)
HasKey wanted.Descriptor key = Unit {0}

-- The set is a raw set that the reference wants.
abbrev pub IsWanted : Wanted → NoteParts → Type 0
IsWanted w n = (kind_of n.key ≡ kinds.RawSet) × HasKey w n.key

-- The set can be read as what the reference wants; a component by its key.
abbrev pub IsReadableAs : Wanted → NoteParts → Type 0
IsReadableAs wanted.Track n = IsReadable track_at n
IsReadableAs wanted.Sequence n = IsReadable sequence_at n
IsReadableAs wanted.Component n =
    (IsTrue (is_clip n.key) × IsReadable clip_at n) ⊎ (IsTrue (is_timecode n.key) × IsReadable timecode_at n)
    ⊎ (IsTrue (is_filler n.key) × IsReadable filler_at n)
IsReadableAs wanted.Descriptor n = IsReadable descriptor_at n

-- The only one of the sets with the identifier is at this offset, and it is so.
abbrev pub IsOnlyAt : List NoteParts → List ℕ → ℕ → (NoteParts → Type 0) → Type 0
IsOnlyAt sets uid offset IsSo = (n : NoteParts) × IsOnlyWith sets uid n × (n.offset ≡ offset) × IsSo n

-- What a reference below a package leads to, behind these references.
abbrev pub LeadsToSet : List NoteParts → List Reference → Wanted → List ℕ → Target → Type 0
LeadsToSet sets before w uid Missing = IsFound sets uid found.Absent
LeadsToSet sets before w uid Several = IsFound sets uid found.Several
LeadsToSet sets before w uid (WrongKind offset) = IsOnlyAt sets uid offset (λ n. kind_of n.key ≢ kinds.RawSet)
LeadsToSet sets before w uid (Other offset) =
    IsOnlyAt sets uid offset (λ n. (kind_of n.key ≡ kinds.RawSet) × ¬ HasKey w n.key)
LeadsToSet sets before w uid (Again offset) = IsOnlyAt sets uid offset (IsWanted w) × IsReached offset before
LeadsToSet sets before w uid (Unreadable offset) =
    IsOnlyAt sets uid offset (λ n. IsWanted w n × ¬ IsReadableAs w n) × ¬ IsReached offset before
LeadsToSet sets before w uid (Found offset) =
    IsOnlyAt sets uid offset (λ n. IsWanted w n × IsReadableAs w n) × ¬ IsReached offset before

-- What a reference to a package leads to: as where the storage was read, but again where it is found a second time.
abbrev pub LeadsToPackage : List NoteParts → List Reference → List ℕ → Target → Type 0
LeadsToPackage sets before uid Missing = IsTarget sets resolving.Package uid resolved.Missing
LeadsToPackage sets before uid Several = IsTarget sets resolving.Package uid resolved.Several
LeadsToPackage sets before uid (WrongKind offset) = IsTarget sets resolving.Package uid (resolved.WrongKind offset)
LeadsToPackage sets before uid (Other offset) = ⊥
LeadsToPackage sets before uid (Again offset) =
    IsTarget sets resolving.Package uid (resolved.Found offset) × IsReached offset before
LeadsToPackage sets before uid (Unreadable offset) = IsTarget sets resolving.Package uid (resolved.Unreadable offset)
LeadsToPackage sets before uid (Found offset) =
    IsTarget sets resolving.Package uid (resolved.Found offset) × ¬ IsReached offset before

abbrev pub LeadsTo : List NoteParts → List Reference → Named → List ℕ → Target → Type 0
LeadsTo sets before Package uid target = LeadsToPackage sets before uid target
LeadsTo sets before (Below w) uid target = LeadsToSet sets before w uid target

-- Each of the references leads to its target, by those before it.
abbrev pub AreTargets : List NoteParts → List Reference → Type 0
AreTargets sets references = (before : List Reference) (r : Reference) (after : List Reference)
    → references ≡ before ++ r ∷ after → LeadsTo sets before r.named r.uid r.target
