-- The clocks of the indexes of a file: which positions have which timecodes (ST 377-1, structural metadata; which
-- packages tell the time, and of which copy, is this project's profile).
use Rattle.std.specs.Prelude.{◌&&◌, ◌+ℤ◌, if◌then◌else◌, filter, find, is_some, ℕ, ℤ, Bool, false, List, [], Option}
use Rattle.std.specs.List.{filter_map, flat_map, list_any}
use Rattle.std.specs.Option.{option_and_then, option_map_or}
use Rattle.mxf_klv.specs.Parts.{NoteParts}
use Rattle.mxf_klv.specs.Rising.{union}
use Rattle.mxf_sets.specs.declared.record.rate.Rate.{Rate}
use Rattle.mxf_views.specs.Copies.{copies_of, preferred_of}
use Rattle.mxf_views.specs.Places.{segments_of}
use Rattle.mxf_tracks.specs.declared.component.Component.{Component}
use Rattle.mxf_tracks.specs.declared.package.FoundPackage.{FoundPackage}
use Rattle.mxf_tracks.specs.declared.package.PackageAt.{PackageAt}
use Rattle.mxf_tracks.specs.declared.package.PackageKind.{PackageKind}
use Rattle.mxf_tracks.specs.declared.package.PackageKind.TheVariants.{Material, Source}
use Rattle.mxf_tracks.specs.declared.track.FoundTrack.{FoundTrack}
use Rattle.mxf_tracks.specs.declared.track.TrackAt.{TrackAt}
use Rattle.mxf_clocks.specs.declared.clock_track.ClockTrack.{ClockTrack}
use Rattle.mxf_clocks.specs.ClockTracks.{clock_of, components_of, found_packages, found_tracks, is_of_kind, is_timecode}
use Rattle.mxf_clocks.specs.FilePackages.{file_index, is_material}
use Rattle.mxf_clocks.specs.Fractions.{lesser, rate_over, units_left}
use Rattle.mxf_clocks.specs.RunOrder.{run_cmp}
use Rattle.mxf_clocks.specs.Runs.{RunParts, run_from}
use Rattle.mxf_clocks.specs.TracksFor.{StartedClip, clip_in, clip_of, is_beside, is_timed, origin_of, track_for}

-- ---- by a material package

-- The run of a clip of a track of this rate, where the first of the file package's tracks that it names has an Origin.
abbrev pub run_by : ℕ → ClockTrack → Rate → StartedClip → ℤ → Option RunParts
run_by index_sid c rate s origin =
    let step = rate_over c.rate rate in
    run_from index_sid c step (s.clip.start_position +ℤ origin) s.start
    (lesser s.clip.duration (units_left step s.start c.duration))

-- The run of a clip, if the file package has the track that it names, at an equal rate.
unfoldable pub run_of_clip : ℕ → ClockTrack → List TrackAt → Rate → StartedClip → Option RunParts
run_of_clip index_sid c file_tracks rate s =
    option_and_then (run_by index_sid c rate s) (origin_of file_tracks s.clip.source_track rate)

-- The run of a component, if it is a clip that names the file package.
abbrev pub run_of_component : ℕ → ClockTrack → FoundPackage → Rate → Component → Option RunParts
run_of_component index_sid c f rate component =
    option_and_then (run_of_clip index_sid c f.tracks rate) (clip_of f.properties.package_uid component)

-- The runs of a track's clips that name the file package.
abbrev pub runs_of_track : ℕ → ClockTrack → FoundPackage → FoundTrack → List RunParts
runs_of_track index_sid c f t = filter_map (run_of_component index_sid c f t.track.edit_rate) (components_of t)

-- The runs that the tracks of a package with this clock give the index of a file package.
abbrev pub runs_for_index : (ℕ → Rate → Bool) → List TrackAt → ClockTrack → FoundPackage → ℕ → List RunParts
runs_for_index timed tracks c f index_sid =
    option_map_or (runs_of_track index_sid c f) (track_for timed index_sid c.rate f.properties.package_uid tracks) []

abbrev pub runs_for : (ℕ → Rate → Bool) → List PackageAt → List TrackAt → ClockTrack → FoundPackage → List RunParts
runs_for timed packages tracks c f = option_map_or (runs_for_index timed tracks c f) (file_index packages f) []

-- The runs that a clock of a package gives the indexes of all file packages.
abbrev pub runs_by_clock : (ℕ → Rate → Bool) → List PackageAt → List TrackAt → ClockTrack → List RunParts
runs_by_clock timed packages tracks c = flat_map (runs_for timed packages tracks c) (found_packages packages)

-- The runs that a package gives, if it is a material package with a clock track.
abbrev pub runs_by_package : (ℕ → Rate → Bool) → List PackageAt → FoundPackage → List RunParts
runs_by_package timed packages m =
    if is_material m.kind then option_map_or (runs_by_clock timed packages m.tracks) (clock_of m.tracks) [] else []

abbrev pub runs_by_material : (ℕ → Rate → Bool) → List PackageAt → List RunParts
runs_by_material timed packages = flat_map (runs_by_package timed packages) (found_packages packages)

-- ---- by the file packages themselves

-- The run of all positions of a track beside the clock of its own package.
abbrev pub run_of_own_track : ℕ → ClockTrack → FoundTrack → Option RunParts
run_of_own_track index_sid c t =
    let step = rate_over c.rate t.track.edit_rate in
    run_from index_sid c step t.track.origin 0 (units_left step 0 c.duration)

-- The run that a clock of a file package gives its own index: that of the first of its tracks that fits.
abbrev pub run_by_own_clock : (ℕ → Rate → Bool) → List TrackAt → ℕ → ClockTrack → Option RunParts
run_by_own_clock timed tracks index_sid c =
    option_and_then (run_of_own_track index_sid c) (find (is_beside timed index_sid c.rate) (found_tracks tracks))

-- The run that a package gives, if it is a file package with a clock track.
unfoldable pub run_by_source : (ℕ → Rate → Bool) → List PackageAt → FoundPackage → Option RunParts
run_by_source timed packages f =
    option_and_then (λ index_sid. option_and_then (run_by_own_clock timed f.tracks index_sid) (clock_of f.tracks))
    (file_index packages f)

abbrev pub runs_by_sources : (ℕ → Rate → Bool) → List PackageAt → List RunParts
runs_by_sources timed packages = filter_map (run_by_source timed packages) (found_packages packages)

-- ---- the clocks

-- A material package that has a track of timecode.
abbrev pub tells_time : FoundPackage → Bool
tells_time p = is_material p.kind && list_any (is_of_kind is_timecode) (found_tracks p.tracks)

-- Whose clocks they are: if a material package tells the time, no other package does.
abbrev pub teller : List PackageAt → PackageKind
teller packages = if list_any tells_time (found_packages packages) then Material else Source

abbrev pub runs_by : PackageKind → (ℕ → Rate → Bool) → List PackageAt → List RunParts
runs_by Material timed packages = runs_by_material timed packages
runs_by Source timed packages = runs_by_sources timed packages

-- The clocks of all indexes: whose they are, and their runs, by the IndexSIDs.
pub record ClocksParts : Type 0 where
  pub by : PackageKind
  pub runs : List RunParts

-- The preferred copy is finished. (A set that is missing could be the one that shifts the clock.)
abbrev pub is_finished : List NoteParts → Bool
is_finished notes = option_map_or (λ c. c.finished) (preferred_of (copies_of notes)) false

-- The runs that the packages give, in their order, each once.
unfoldable pub runs_of : List NoteParts → List PackageAt → List RunParts
runs_of notes packages =
    if is_finished notes
    then union run_cmp [] (runs_by (teller packages) (is_timed (segments_of notes)) packages) else []

abbrev pub clocks_of : List NoteParts → List PackageAt → ClocksParts
clocks_of notes packages = record { by = teller packages; runs = runs_of notes packages }

-- ---- what is counted

-- The components that are clips, of all tracks of all packages that are found.
abbrev pub is_clip : Component → Bool
is_clip c = is_some (option_and_then clip_in c.part)

abbrev pub clips_in : FoundPackage → List Component
clips_in p = flat_map (λ t. filter is_clip (components_of t)) (found_tracks p.tracks)

abbrev pub clips_found : List PackageAt → List Component
clips_found packages = flat_map clips_in (found_packages packages)

-- The file packages.
abbrev pub files_found : List PackageAt → List FoundPackage
files_found packages = filter (λ f. is_some (file_index packages f)) (found_packages packages)
