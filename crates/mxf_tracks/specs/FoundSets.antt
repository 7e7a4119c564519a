-- What is found by a walk: each record is that of a set of the copy, and what it names are the references behind it.
use Rattle.std.specs.Prelude.{◌≡◌, ℕ, Bool, true, false, IsTrue, List, map, MatchOption, Option, Result}
use Rattle.std.specs.List.{AllByRecursion}
use Rattle.std.specs.Option.{option_map}
use Rattle.mxf_klv.specs.Parts.{NoteParts}
use Rattle.mxf_klv.specs.Rising.{In}
use Rattle.mxf_sets.specs.Component.{clip_at, timecode_at, filler_at}
use Rattle.mxf_sets.specs.Descriptor.{descriptor_at}
use Rattle.mxf_sets.specs.Package.{package_at}
use Rattle.mxf_sets.specs.Sequence.{SequenceParts, sequence_at}
use Rattle.mxf_sets.specs.Track.{track_at}
use Rattle.mxf_views.specs.Readings.{IsReadAs}
use Rattle.mxf_tracks.specs.declared.component.Component.{Component}
use Rattle.mxf_tracks.specs.declared.component.Part.{Part}
use Rattle.mxf_tracks.specs.declared.component.Part.TheVariants.{Clip, Timecode, Filler}
use Rattle.mxf_tracks.specs.declared.descriptor.DescriptorAt.{DescriptorAt}
use Rattle.mxf_tracks.specs.declared.descriptor.FoundDescriptor.{FoundDescriptor}
use Rattle.mxf_tracks.specs.declared.descriptor.SubdescriptorAt.{SubdescriptorAt}
use Rattle.mxf_tracks.specs.declared.package.FoundPackage.{FoundPackage}
use Rattle.mxf_tracks.specs.declared.package.PackageAt.{PackageAt}
use Rattle.mxf_tracks.specs.declared.sequence.FoundSequence.{FoundSequence}
use Rattle.mxf_tracks.specs.declared.sequence.SequenceAt.{SequenceAt}
use Rattle.mxf_tracks.specs.declared.target.Target.{Target}
use Rattle.mxf_tracks.specs.declared.target.Target.TheVariants.{Found}
use Rattle.mxf_tracks.specs.declared.track.FoundTrack.{FoundTrack}
use Rattle.mxf_tracks.specs.declared.track.TrackAt.{TrackAt}
use Rattle.mxf_tracks.specs.Keys.{is_clip, is_filler, is_sequence, is_timecode, is_track, sequence_kind}

abbrev pub is_found : Target → Bool
is_found (Found offset) = true
is_found _ = false

-- Any key.
abbrev pub any_key : List ℕ → Bool
any_key key = true

-- The target is found at one of the sets, which has such a key and is read as this.
pub record IsReadThere {A E : Type 0} (sets : List NoteParts) (is_such : List ℕ → Bool) (read : List ℕ → Result A E)
    (target : Target) (value : A) : Type 0 where
  pub note : NoteParts
  pub held : In note sets
  pub there : target ≡ Found note.offset
  pub such : IsTrue (is_such note.key)
  pub read_as : IsReadAs read note value

-- There is something found exactly if the target is found, and then it is so.
abbrev pub IsSoWhereFound : {A : Type 0} → Target → Option A → (A → Type 0) → Type 0
IsSoWhereFound target found IsSo = MatchOption found (is_found target ≡ false) IsSo

abbrev pub IsPartThere : List NoteParts → Target → Part → Type 0
IsPartThere sets target (Clip c) = IsReadThere sets is_clip clip_at target c
IsPartThere sets target (Timecode t) = IsReadThere sets is_timecode timecode_at target t
IsPartThere sets target (Filler f) = IsReadThere sets is_filler filler_at target f

abbrev pub IsComponentThere : List NoteParts → Component → Type 0
IsComponentThere sets c = IsSoWhereFound c.target c.part (IsPartThere sets c.target)

-- A sequence, with its components.
pub record IsSequenceOf (sets : List NoteParts) (target : Target) (f : FoundSequence) : Type 0 where
  pub sequence : SequenceParts
  pub there : IsReadThere sets is_sequence sequence_at target sequence
  pub kind : f.kind ≡ sequence_kind sequence.data_definition
  pub duration : f.duration ≡ sequence.duration
  pub named : map (λ c. c.uid) f.components ≡ sequence.components
  pub components : AllByRecursion (IsComponentThere sets) f.components

abbrev pub IsSequenceThere : List NoteParts → SequenceAt → Type 0
IsSequenceThere sets s = IsSoWhereFound s.target s.found (IsSequenceOf sets s.target)

-- A track, with its sequence.
pub record IsTrackOf (sets : List NoteParts) (target : Target) (f : FoundTrack) : Type 0 where
  pub there : IsReadThere sets is_track track_at target f.track
  pub named : f.sequence.uid ≡ f.track.sequence
  pub sequence : IsSequenceThere sets f.sequence

abbrev pub IsTrackThere : List NoteParts → TrackAt → Type 0
IsTrackThere sets t = IsSoWhereFound t.target t.found (IsTrackOf sets t.target)

abbrev pub IsSubdescriptorThere : List NoteParts → SubdescriptorAt → Type 0
IsSubdescriptorThere sets d = IsSoWhereFound d.target d.found (IsReadThere sets any_key descriptor_at d.target)

-- A descriptor, with those of its parts.
pub record IsDescriptorOf (sets : List NoteParts) (target : Target) (f : FoundDescriptor) : Type 0 where
  pub there : IsReadThere sets any_key descriptor_at target f.descriptor
  pub named : map (λ d. d.uid) f.subdescriptors ≡ f.descriptor.subdescriptors
  pub parts : AllByRecursion (IsSubdescriptorThere sets) f.subdescriptors

abbrev pub IsDescriptorThere : List NoteParts → DescriptorAt → Type 0
IsDescriptorThere sets d = IsSoWhereFound d.target d.found (IsDescriptorOf sets d.target)

-- A package of the clear notes, with its tracks and its descriptor, which are those of sets.
pub record IsPackageOf (clear sets : List NoteParts) (target : Target) (f : FoundPackage) : Type 0 where
  pub there : IsReadThere clear any_key package_at target f.properties
  pub tracks_named : map (λ t. t.uid) f.tracks ≡ f.properties.tracks
  pub tracks : AllByRecursion (IsTrackThere sets) f.tracks
  pub descriptor_named : option_map (λ d. d.uid) f.descriptor ≡ f.properties.descriptor
  pub descriptor : MatchOption f.descriptor (Unit {0}) (IsDescriptorThere sets)

abbrev pub IsPackageThere : List NoteParts → List NoteParts → PackageAt → Type 0
IsPackageThere clear sets p = IsSoWhereFound p.target p.found (IsPackageOf clear sets p.target)
