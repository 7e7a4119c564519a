-- Which position is shown at which number (ST 377-1, structural metadata; this project's profile), without runs: of the
-- packages, tracks and clips alone, and by the rates as they are stored.
use Rattle.std.specs.Prelude.{◌≡◌, ◌+◌, ◌*◌, ◌<◌, ◌≤◌, ◌+ℤ◌, ◌≤ℤ◌, pos, unsigned_abs, IfSome, ℕ, ℤ, List}
use Rattle.mxf_klv.specs.Parts.{NoteParts}
use Rattle.mxf_klv.specs.Rising.{In}
use Rattle.mxf_sets.specs.declared.record.rate.Rate.{Rate}
use Rattle.mxf_views.specs.Places.{SegmentAtParts, greatest_unit, segments_of}
use Rattle.mxf_tracks.specs.Timecodes.{number_in_day}
use Rattle.mxf_tracks.specs.declared.component.Component.{Component}
use Rattle.mxf_tracks.specs.declared.package.FoundPackage.{FoundPackage}
use Rattle.mxf_tracks.specs.declared.package.PackageAt.{PackageAt}
use Rattle.mxf_tracks.specs.declared.package.PackageKind.{PackageKind}
use Rattle.mxf_tracks.specs.declared.package.PackageKind.TheVariants.{Material, Source}
use Rattle.mxf_tracks.specs.declared.track.FoundTrack.{FoundTrack}
use Rattle.mxf_clocks.specs.declared.clock_track.ClockTrack.{ClockTrack}
use Rattle.mxf_clocks.specs.Choices.{HasComponent, IsClipOf, IsClockOf, IsFileIndex, IsFinished, IsOriginOf}
use Rattle.mxf_clocks.specs.Choices.{IsOwnTrack, IsTeller, IsTrackFor}
use Rattle.mxf_clocks.specs.ClockTracks.{found_packages}
use Rattle.mxf_clocks.specs.TracksFor.{StartedClip}

-- So many timecodes of this rate take no longer than so many units of that rate, and the same with less: timecodes
-- times D over N are seconds.
abbrev pub IsNoLonger : Rate → ℕ → Rate → ℕ → Type 0
IsNoLonger clock_rate timecodes rate units =
    timecodes * (unsigned_abs clock_rate.denominator * unsigned_abs rate.numerator)
    ≤ units * (unsigned_abs clock_rate.numerator * unsigned_abs rate.denominator)

abbrev pub IsLonger : Rate → ℕ → Rate → ℕ → Type 0
IsLonger clock_rate timecodes rate units =
    units * (unsigned_abs clock_rate.numerator * unsigned_abs rate.denominator)
    < timecodes * (unsigned_abs clock_rate.denominator * unsigned_abs rate.numerator)

-- The clock, so many units of this rate behind its start, stands at the number, modulo a day: as many whole timecodes
-- have gone by since its StartTimecode.
pub record StandsAt (c : ClockTrack) (rate : Rate) (units number : ℕ) : Type 0 where
  pub timecodes : ℕ
  pub gone : IsNoLonger c.rate timecodes rate units
  pub last : IsLonger c.rate (timecodes + 1) rate units
  pub there : number ≡ number_in_day (c.start +ℤ pos timecodes) c.base c.is_drop

-- A unit that begins so many units behind the start of the clock begins within the clock's duration, where that is
-- known.
abbrev pub IsWithin : ClockTrack → Rate → ℕ → Type 0
IsWithin c rate units = IfSome c.duration (λ d. IsLonger c.rate d rate units)

-- The position is the one so many units behind the first, which is one that can be asked for, or lies below 0.
pub record IsBehind (first : ℤ) (units position : ℕ) : Type 0 where
  pub greatest : first ≤ℤ pos greatest_unit
  pub there : pos position ≡ first +ℤ pos units

-- By a clip of the track of a material package for a file package of the index.
pub record IsShownByClip (segments : List SegmentAtParts) (packages : List PackageAt) (index_sid position number : ℕ)
    : Type 0 where
  pub material : FoundPackage
  pub material_found : In material (found_packages packages)
  pub kind : material.kind ≡ Material
  pub clock : ClockTrack
  pub tells : IsClockOf material.tracks clock
  pub file : FoundPackage
  pub index : IsFileIndex packages file index_sid
  pub track : FoundTrack
  pub track_is : IsTrackFor segments index_sid clock.rate file.properties.package_uid material.tracks track
  pub component : Component
  pub held : HasComponent track component
  pub started : StartedClip
  pub clip_is : IsClipOf file.properties.package_uid component started
  pub origin : ℤ
  pub origin_is : IsOriginOf file.tracks started.clip.source_track track.track.edit_rate origin
  pub units : ℕ
  pub behind : IsBehind (started.clip.start_position +ℤ origin) units position
  pub in_clip : IfSome started.clip.duration (λ e. units < e)
  pub in_time : IsWithin clock track.track.edit_rate (started.start + units)
  pub stands : StandsAt clock track.track.edit_rate (started.start + units) number

-- By the clock track of a file package of the index.
pub record IsShownByFile (segments : List SegmentAtParts) (packages : List PackageAt) (index_sid position number : ℕ)
    : Type 0 where
  pub file : FoundPackage
  pub index : IsFileIndex packages file index_sid
  pub clock : ClockTrack
  pub tells : IsClockOf file.tracks clock
  pub track : FoundTrack
  pub track_is : IsOwnTrack segments index_sid clock.rate file.tracks track
  pub units : ℕ
  pub behind : IsBehind track.track.origin units position
  pub in_time : IsWithin clock track.track.edit_rate units
  pub stands : StandsAt clock track.track.edit_rate units number

abbrev pub IsShownBy : PackageKind → List SegmentAtParts → List PackageAt → ℕ → ℕ → ℕ → Type 0
IsShownBy Material segments packages index_sid position number =
    IsShownByClip segments packages index_sid position number
IsShownBy Source segments packages index_sid position number =
    IsShownByFile segments packages index_sid position number

-- The position of the index is shown at the number: by a material package, or where none tells the time by a file
-- package; of a copy that is finished.
pub record IsShown (notes : List NoteParts) (packages : List PackageAt) (index_sid position number : ℕ) : Type 0 where
  pub finished : IsFinished notes
  pub teller : PackageKind
  pub teller_is : IsTeller packages teller
  pub by : IsShownBy teller (segments_of notes) packages index_sid position number
