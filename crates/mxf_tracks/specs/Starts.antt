-- Where the components of a sequence begin (ST 377-1, Sequence and structural component sets: one component after
-- another; that no place is known behind a component of unknown length is this project's profile).
use Rattle.std.specs.Prelude.{◌≡◌, ℕ, List, [], ◌∷◌, ◌++◌, Option, Some, None}
use Rattle.std.specs.List.{sum}
use Rattle.mxf_klv.specs.Rising.{In}
use Rattle.mxf_tracks.specs.declared.component.Component.{Component}
use Rattle.mxf_tracks.specs.declared.component.Part.{Part}
use Rattle.mxf_tracks.specs.declared.component.Part.TheVariants.{Clip, Timecode, Filler}
use Rattle.mxf_tracks.specs.declared.package.FoundPackage.{FoundPackage}
use Rattle.mxf_tracks.specs.declared.package.PackageAt.{PackageAt}
use Rattle.mxf_tracks.specs.declared.sequence.FoundSequence.{FoundSequence}
use Rattle.mxf_tracks.specs.declared.track.FoundTrack.{FoundTrack}
use Rattle.mxf_tracks.specs.declared.track.TrackAt.{TrackAt}

-- The set states this Duration.
abbrev pub StatesDuration : Part → ℕ → Type 0
StatesDuration (Clip c) duration = c.duration ≡ Some duration
StatesDuration (Timecode t) duration = t.duration ≡ Some duration
StatesDuration (Filler f) duration = f.duration ≡ Some duration

-- The component is found, and lasts so many edit units.
abbrev pub Lasts : Component → ℕ → Type 0
Lasts c duration = (part : Part) × (c.part ≡ Some part) × StatesDuration part duration

-- The components last so long, one duration for each.
abbrev pub LastEach : List Component → List ℕ → Type 0
LastEach [] [] = Unit {0}
LastEach (c ∷ cs) (d ∷ ds) = Lasts c d × LastEach cs ds
LastEach _ _ = ⊥

-- Behind these components the next one begins: where their durations add up to; or at no known place, if one of them
-- isn't found, or its duration isn't known.
abbrev pub IsStartBehind : List Component → Option ℕ → Type 0
IsStartBehind before (Some start) = (durations : List ℕ) × LastEach before durations × (start ≡ sum durations)
IsStartBehind before None = (c : Component) × In c before × ((duration : ℕ) → ¬ Lasts c duration)

-- Each component begins behind all that stand before it.
abbrev pub AreOneBehindAnother : List Component → Type 0
AreOneBehindAnother components =
    (before after : List Component) (c : Component) → components ≡ before ++ c ∷ after → IsStartBehind before c.start

-- The package is found, as one of these.
abbrev pub IsPackageIn : List PackageAt → FoundPackage → Type 0
IsPackageIn packages f = (p : PackageAt) × In p packages × (p.found ≡ Some f)

-- The sequence is found, as that of a track of one of these packages.
pub record IsSequenceIn (packages : List PackageAt) (s : FoundSequence) : Type 0 where
  pub found : FoundPackage
  pub package_found : IsPackageIn packages found
  pub named : TrackAt
  pub held : In named found.tracks
  pub track : FoundTrack
  pub track_found : named.found ≡ Some track
  pub sequence_found : track.sequence.found ≡ Some s
