-- Which position is shown at which number, by the functions that choose tracks, clips, Origins and packages.
use Rattle.mxf_views.proofs.Common.{◌≡◌, ◌+◌, ◌<◌, true, find, IfSome, ℕ, ℤ, Bool, List, Some, NoteParts, In, segments_of}
use Rattle.std.specs.Prelude.{◌+ℤ◌}
use Rattle.mxf_sets.specs.declared.record.rate.Rate.{Rate}
use Rattle.mxf_tracks.specs.declared.component.Component.{Component}
use Rattle.mxf_tracks.specs.declared.package.FoundPackage.{FoundPackage}
use Rattle.mxf_tracks.specs.declared.package.PackageAt.{PackageAt}
use Rattle.mxf_tracks.specs.declared.package.PackageKind.{PackageKind}
use Rattle.mxf_tracks.specs.declared.package.PackageKind.TheVariants.{Material, Source}
use Rattle.mxf_tracks.specs.declared.track.FoundTrack.{FoundTrack}
use Rattle.mxf_clocks.specs.declared.clock_track.ClockTrack.{ClockTrack}
use Rattle.mxf_clocks.specs.ClockTracks.{clock_of, components_of, found_packages, found_tracks}
use Rattle.mxf_clocks.specs.Clocks.{is_finished, teller}
use Rattle.mxf_clocks.specs.FilePackages.{file_index}
use Rattle.mxf_clocks.specs.Shown.{IsBehind, IsWithin, StandsAt}
use Rattle.mxf_clocks.specs.TracksFor.{StartedClip, clip_of, is_beside, is_timed, origin_of, track_for}

-- By a clip of the track of a material package for a file package of the index.
pub record IsFoundByClip (timed : ℕ → Rate → Bool) (packages : List PackageAt) (index_sid position number : ℕ)
    : Type 0 where
  pub material : FoundPackage
  pub material_found : In material (found_packages packages)
  pub kind : material.kind ≡ Material
  pub clock : ClockTrack
  pub tells : clock_of material.tracks ≡ Some clock
  pub file : FoundPackage
  pub file_found : In file (found_packages packages)
  pub index : file_index packages file ≡ Some index_sid
  pub track : FoundTrack
  pub track_is : track_for timed index_sid clock.rate file.properties.package_uid material.tracks ≡ Some track
  pub component : Component
  pub held : In component (components_of track)
  pub started : StartedClip
  pub clip_is : clip_of file.properties.package_uid component ≡ Some started
  pub origin : ℤ
  pub origin_is : origin_of file.tracks started.clip.source_track track.track.edit_rate ≡ Some origin
  pub units : ℕ
  pub behind : IsBehind (started.clip.start_position +ℤ origin) units position
  pub in_clip : IfSome started.clip.duration (λ e. units < e)
  pub in_time : IsWithin clock track.track.edit_rate (started.start + units)
  pub stands : StandsAt clock track.track.edit_rate (started.start + units) number

-- By the clock track of a file package of the index.
pub record IsFoundByFile (timed : ℕ → Rate → Bool) (packages : List PackageAt) (index_sid position number : ℕ)
    : Type 0 where
  pub file : FoundPackage
  pub file_found : In file (found_packages packages)
  pub index : file_index packages file ≡ Some index_sid
  pub clock : ClockTrack
  pub tells : clock_of file.tracks ≡ Some clock
  pub track : FoundTrack
  pub track_is : find (is_beside timed index_sid clock.rate) (found_tracks file.tracks) ≡ Some track
  pub units : ℕ
  pub behind : IsBehind track.track.origin units position
  pub in_time : IsWithin clock track.track.edit_rate units
  pub stands : StandsAt clock track.track.edit_rate units number

abbrev pub IsFoundBy : PackageKind → (ℕ → Rate → Bool) → List PackageAt → ℕ → ℕ → ℕ → Type 0
IsFoundBy Material timed packages index_sid position number = IsFoundByClip timed packages index_sid position number
IsFoundBy Source timed packages index_sid position number = IsFoundByFile timed packages index_sid position number

-- The position of the index is shown at the number: by a material package, or where none tells the time by a file
-- package; of a copy that is finished.
pub record IsFound (notes : List NoteParts) (packages : List PackageAt) (index_sid position number : ℕ) : Type 0 where
  pub finished : is_finished notes ≡ true
  pub by : IsFoundBy (teller packages) (is_timed (segments_of notes)) packages index_sid position number
