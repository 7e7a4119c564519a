-- Clock tracks: the track of a package that tells its time (ST 377-1, Timeline Track, Sequence and Timecode Component
-- sets; which track tells it, and when, is this project's profile).
use Rattle.std.specs.Prelude.{◌≡◌, ◌<◌, ◌&&◌, ◌==◌, nat_lt, find, unsigned_abs, if◌then◌else◌, Bool, true, false}
use Rattle.std.specs.Prelude.{List, [], ◌∷◌, Option, Some, None}
use Rattle.std.specs.List.{filter_map}
use Rattle.std.specs.Option.{option_and_then, option_map_or}
use Rattle.mxf_sets.specs.Component.{TimecodeParts, is_drop}
use Rattle.mxf_sets.specs.Rate.{is_good}
use Rattle.mxf_sets.specs.declared.record.rate.Rate.{Rate}
use Rattle.mxf_tracks.specs.declared.component.Component.{Component}
use Rattle.mxf_tracks.specs.declared.component.Part.{Part}
use Rattle.mxf_tracks.specs.declared.component.Part.TheVariants as parts
use Rattle.mxf_tracks.specs.declared.package.FoundPackage.{FoundPackage}
use Rattle.mxf_tracks.specs.declared.package.PackageAt.{PackageAt}
use Rattle.mxf_tracks.specs.declared.sequence.SequenceKind.{SequenceKind}
use Rattle.mxf_tracks.specs.declared.sequence.SequenceKind.TheVariants as kinds
use Rattle.mxf_tracks.specs.declared.track.FoundTrack.{FoundTrack}
use Rattle.mxf_tracks.specs.declared.track.TrackAt.{TrackAt}
use Rattle.mxf_clocks.specs.declared.clock_track.ClockTrack.{ClockTrack}

-- The packages that are found, in their order.
abbrev pub found_packages : List PackageAt → List FoundPackage
found_packages packages = filter_map (λ p. p.found) packages

-- The tracks that are found, in their order.
abbrev pub found_tracks : List TrackAt → List FoundTrack
found_tracks tracks = filter_map (λ t. t.found) tracks

-- The kind of a sequence of timecode.
abbrev pub is_timecode : SequenceKind → Bool
is_timecode kinds.Timecode = true
is_timecode _ = false

-- The kinds of sequences of essence: picture, sound or data.
abbrev pub is_essence : SequenceKind → Bool
is_essence kinds.Picture = true
is_essence kinds.Sound = true
is_essence kinds.Data = true
is_essence _ = false

-- The sequence of the track is found, and its kind is such.
abbrev pub is_of_kind : (SequenceKind → Bool) → FoundTrack → Bool
is_of_kind is_such t = option_map_or (λ s. is_such s.kind) t.sequence.found false

-- The components of its sequence, none if that isn't found.
abbrev pub components_of : FoundTrack → List Component
components_of t = option_map_or (λ s. s.components) t.sequence.found []

-- The Origin of the track is 0.
abbrev pub begins_at_zero : FoundTrack → Bool
begins_at_zero t = unsigned_abs t.track.origin == 0

-- The timecode component, if the part is one.
abbrev pub timecode_in : Part → Option TimecodeParts
timecode_in (parts.Timecode t) = Some t
timecode_in _ = None

-- The timecode component that is the only component, and is found.
abbrev pub only_timecode : List Component → Option TimecodeParts
only_timecode (c ∷ []) = option_and_then timecode_in c.part
only_timecode _ = None

-- A clock has a good rate and a base above 0.
pub record IsClock (c : ClockTrack) : Type 0 where
  pub good : is_good c.rate ≡ true
  pub base : 0 < c.base

-- The clock of a timecode component of a base above 0, at the rate of its track.
abbrev pub clock_with : Rate → TimecodeParts → Option ClockTrack
clock_with rate t =
    if nat_lt 0 t.base then
    Some (record { rate = rate; start = t.start; duration = t.duration; base = t.base; is_drop = is_drop t })
    else None

-- The clock of a track of timecode: it has a good rate, Origin 0, and exactly one component.
unfoldable pub clock_by : FoundTrack → Option ClockTrack
clock_by t =
    if is_good t.track.edit_rate && begins_at_zero t then
    option_and_then (clock_with t.track.edit_rate) (only_timecode (components_of t))
    else None

-- The clock track of a package: the first of its tracks of timecode, if that is a clock.
unfoldable pub clock_of : List TrackAt → Option ClockTrack
clock_of tracks = option_and_then clock_by (find (is_of_kind is_timecode) (found_tracks tracks))
