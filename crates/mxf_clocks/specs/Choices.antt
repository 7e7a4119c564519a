-- Which tracks, clips, Origins, indexes and packages clocks go by, as relations. A track that is chosen is the first of a
-- list that is so, and none before it is (ST 377-1, structural metadata and Index Table Segment; the choices are this
-- project's profile).
use Rattle.std.specs.Prelude.{◌≡◌, ◌≢◌, ◌*◌, ◌≤◌, ◌<◌, ◌<ℤ◌, ◌⊎◌, ◌++◌, ◌∷◌, [], pos, true, unsigned_abs, ℕ, ℤ}
use Rattle.std.specs.Prelude.{List, Some}
use Rattle.mxf_klv.specs.Parts.{NoteParts}
use Rattle.mxf_klv.specs.Rising.{In}
use Rattle.mxf_sets.specs.Component.{TimecodeParts, is_drop}
use Rattle.mxf_sets.specs.declared.record.rate.Rate.{Rate}
use Rattle.mxf_views.specs.Copies.{copies_of, preferred_of}
use Rattle.mxf_views.specs.Places.{SegmentAtParts}
use Rattle.mxf_views.specs.declared.copy.CopyInfo.{CopyInfo}
use Rattle.mxf_tracks.specs.declared.component.Component.{Component}
use Rattle.mxf_tracks.specs.declared.component.Part.TheVariants as parts
use Rattle.mxf_tracks.specs.declared.container.Container.{Container}
use Rattle.mxf_tracks.specs.declared.package.FoundPackage.{FoundPackage}
use Rattle.mxf_tracks.specs.declared.package.PackageAt.{PackageAt}
use Rattle.mxf_tracks.specs.declared.package.PackageKind.{PackageKind}
use Rattle.mxf_tracks.specs.declared.package.PackageKind.TheVariants.{Material, Source}
use Rattle.mxf_tracks.specs.declared.sequence.FoundSequence.{FoundSequence}
use Rattle.mxf_tracks.specs.declared.sequence.SequenceKind.TheVariants as kinds
use Rattle.mxf_tracks.specs.declared.track.FoundTrack.{FoundTrack}
use Rattle.mxf_tracks.specs.declared.track.TrackAt.{TrackAt}
use Rattle.mxf_clocks.specs.declared.clock_track.ClockTrack.{ClockTrack}
use Rattle.mxf_clocks.specs.ClockTracks.{found_packages, found_tracks}
use Rattle.mxf_clocks.specs.TracksFor.{StartedClip, index_rate}

-- ---- lists

-- The first of the list that is so: none before it is.
pub record IsFirst {A : Type 0} (IsSo : A → Type 0) (xs : List A) (x : A) : Type 0 where
  pub before : List A
  pub after : List A
  pub there : xs ≡ before ++ x ∷ after
  pub is_so : IsSo x
  pub none_before : (y : A) → In y before → ¬ IsSo y

-- The only one of the list that is so.
pub record IsOnly {A : Type 0} (IsSo : A → Type 0) (xs : List A) (x : A) : Type 0 where
  pub before : List A
  pub after : List A
  pub there : xs ≡ before ++ x ∷ after
  pub is_so : IsSo x
  pub no_other : (y : A) → In y (before ++ after) → ¬ IsSo y

-- ---- rates

-- Both numbers are above 0.
abbrev pub IsGood : Rate → Type 0
IsGood r = (pos 0 <ℤ r.numerator) × (pos 0 <ℤ r.denominator)

-- Both are good, and they are one fraction.
abbrev pub AreEqualRates : Rate → Rate → Type 0
AreEqualRates a b =
    IsGood a × IsGood b
    × (unsigned_abs a.numerator * unsigned_abs b.denominator ≡ unsigned_abs b.numerator * unsigned_abs a.denominator)

-- The first isn't less than the second.
abbrev pub IsNotBelow : Rate → Rate → Type 0
IsNotBelow a b =
    unsigned_abs b.numerator * unsigned_abs a.denominator ≤ unsigned_abs a.numerator * unsigned_abs b.denominator

-- ---- tracks

-- The sequence of the track is found, and is so.
abbrev pub HasSequence : (FoundSequence → Type 0) → FoundTrack → Type 0
HasSequence IsSo t = (s : FoundSequence) × (t.sequence.found ≡ Some s) × IsSo s

-- A track of timecode.
abbrev pub IsOfTimecode : FoundTrack → Type 0
IsOfTimecode t = HasSequence (λ s. s.kind ≡ kinds.Timecode) t

-- A track of picture, sound or data.
abbrev pub IsOfEssence : FoundTrack → Type 0
IsOfEssence t = HasSequence (λ s. (s.kind ≡ kinds.Picture) ⊎ (s.kind ≡ kinds.Sound) ⊎ (s.kind ≡ kinds.Data)) t

-- The component stands in the sequence of the track.
abbrev pub HasComponent : FoundTrack → Component → Type 0
HasComponent t c = HasSequence (λ s. In c s.components) t

-- The clock of a package: its first track of timecode is one. That has a good rate, Origin 0 and exactly one component,
-- a Timecode Component that is found, of a base above 0.
pub record IsClockOf (tracks : List TrackAt) (c : ClockTrack) : Type 0 where
  pub track : FoundTrack
  pub first : IsFirst IsOfTimecode (found_tracks tracks) track
  pub good : IsGood track.track.edit_rate
  pub origin : track.track.origin ≡ pos 0
  pub component : Component
  pub only : HasSequence (λ s. s.components ≡ component ∷ []) track
  pub timecode : TimecodeParts
  pub part : component.part ≡ Some (parts.Timecode timecode)
  pub base : 0 < timecode.base
  pub clock_is : c ≡ record {
    rate = track.track.edit_rate;
    start = timecode.start;
    duration = timecode.duration;
    base = timecode.base;
    is_drop = is_drop timecode;
  }

-- The index is timed at the rate: each segment of its IndexSID has an equal IndexEditRate.
abbrev pub IsTimed : List SegmentAtParts → ℕ → Rate → Type 0
IsTimed segments index_sid rate =
    (s : SegmentAtParts) → In s segments → s.segment.numbers.index_sid ≡ index_sid
    → AreEqualRates (index_rate s.segment.numbers) rate

-- A track of essence whose units can be those of the index beside a clock of this rate: its own is good and not below
-- that, and the index is timed at it.
pub record IsBeside (segments : List SegmentAtParts) (index_sid : ℕ) (clock_rate : Rate) (t : FoundTrack) : Type 0 where
  pub essence : IsOfEssence t
  pub good : IsGood t.track.edit_rate
  pub not_below : IsNotBelow t.track.edit_rate clock_rate
  pub timed : IsTimed segments index_sid t.track.edit_rate

-- The component is a clip with a known start that names the package as its SourcePackageID.
pub record IsClipOf (package_uid : List ℕ) (component : Component) (s : StartedClip) : Type 0 where
  pub start : component.start ≡ Some s.start
  pub part : component.part ≡ Some (parts.Clip s.clip)
  pub source_package : s.clip.source_package ≡ package_uid

-- Such a track that has Origin 0 and a clip of the package.
pub record IsShowing (segments : List SegmentAtParts) (index_sid : ℕ) (clock_rate : Rate) (package_uid : List ℕ)
    (t : FoundTrack) : Type 0 where
  pub beside : IsBeside segments index_sid clock_rate t
  pub origin : t.track.origin ≡ pos 0
  pub component : Component
  pub held : HasComponent t component
  pub clip : StartedClip
  pub clip_is : IsClipOf package_uid component clip

-- The track for the file package with this identifier: the first one.
abbrev pub IsTrackFor : List SegmentAtParts → ℕ → Rate → List ℕ → List TrackAt → FoundTrack → Type 0
IsTrackFor segments index_sid clock_rate package_uid tracks t =
    IsFirst (IsShowing segments index_sid clock_rate package_uid) (found_tracks tracks) t

-- The track of a file package beside its own clock: the first one whose units can be those of the index.
abbrev pub IsOwnTrack : List SegmentAtParts → ℕ → Rate → List TrackAt → FoundTrack → Type 0
IsOwnTrack segments index_sid clock_rate tracks t =
    IsFirst (IsBeside segments index_sid clock_rate) (found_tracks tracks) t

-- The Origin of the first track with the TrackID, whose rate equals this one.
pub record IsOriginOf (tracks : List TrackAt) (track_id : ℕ) (rate : Rate) (origin : ℤ) : Type 0 where
  pub track : FoundTrack
  pub first : IsFirst (λ t. t.track.id ≡ track_id) (found_tracks tracks) track
  pub same : AreEqualRates track.track.edit_rate rate
  pub origin_is : origin ≡ track.track.origin

-- ---- packages

-- A file package with its IndexSID: a source package whose identifier isn't zeros and is that of no other package, with
-- a container whose IndexSID is above 0.
pub record IsFileIndex (packages : List PackageAt) (f : FoundPackage) (index_sid : ℕ) : Type 0 where
  pub kind : f.kind ≡ Source
  pub byte : ℕ
  pub held : In byte f.properties.package_uid
  pub not_zero : byte ≢ 0
  pub only : IsOnly (λ p. p.properties.package_uid ≡ f.properties.package_uid) (found_packages packages) f
  pub container : Container
  pub container_is : f.container ≡ Some container
  pub index : index_sid ≡ container.index_sid
  pub above : 0 < index_sid

-- A material package that has a track of timecode, whether that is a clock or not.
abbrev pub TellsTime : FoundPackage → Type 0
TellsTime p = (p.kind ≡ Material) × ((t : FoundTrack) × In t (found_tracks p.tracks) × IsOfTimecode t)

-- Whose the clocks are: those of material packages if one tells the time, else those of the file packages.
abbrev pub IsTeller : List PackageAt → PackageKind → Type 0
IsTeller packages Material = (p : FoundPackage) × In p (found_packages packages) × TellsTime p
IsTeller packages Source = (p : FoundPackage) → In p (found_packages packages) → ¬ TellsTime p

-- The preferred copy is finished.
abbrev pub IsFinished : List NoteParts → Type 0
IsFinished notes = (c : CopyInfo) × (preferred_of (copies_of notes) ≡ Some c) × (c.finished ≡ true)
