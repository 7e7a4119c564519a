-- What is looked up of indexes, packages and tracks, in tables of their numbers and identifiers (this project's
-- profile).
use Rattle.std.specs.Prelude.{◌≡◌, ◌&&◌, ◌==◌, not, is_some, find, filter, if◌then◌else◌, ℕ, ℤ, Bool, true, false}
use Rattle.std.specs.Prelude.{List, [], ◌∷◌, Option, Some, None}
use Rattle.std.specs.BTreeMap.{BTreeMap, get}
use Rattle.std.specs.Cmp.Lexicographic.{slice_cmp}
use Rattle.std.specs.List.{flat_map}
use Rattle.std.specs.Option.{option_and_then, option_map, option_map_or}
use Rattle.std.specs.Ordering.{nat_cmp, ordering_then}
use Rattle.std.specs.declared.cmp.Ordering.{Ordering}
use Rattle.std.specs.Str.{bytes_eq}
use Rattle.mxf_sets.specs.Component.{ClipParts}
use Rattle.mxf_sets.specs.Rate.{is_same_rate}
use Rattle.mxf_sets.specs.declared.record.rate.Rate.{Rate}
use Rattle.mxf_views.specs.Places.{SegmentAtParts}
use Rattle.mxf_tracks.specs.declared.component.Component.{Component}
use Rattle.mxf_tracks.specs.declared.package.FoundPackage.{FoundPackage}
use Rattle.mxf_tracks.specs.declared.package.PackageAt.{PackageAt}
use Rattle.mxf_tracks.specs.declared.track.FoundTrack.{FoundTrack}
use Rattle.mxf_clocks.specs.declared.clock_track.ClockTrack.{ClockTrack}
use Rattle.mxf_clocks.specs.declared.origins.TrackOrigin.{TrackOrigin}
use Rattle.mxf_clocks.specs.declared.tables.Tables.{Tables}
use Rattle.mxf_clocks.specs.ClockTracks.{begins_at_zero, found_packages, found_tracks}
use Rattle.mxf_clocks.specs.Clocks.{run_by, run_by_own_clock}
use Rattle.mxf_clocks.specs.ClockTracks.{clock_of}
use Rattle.mxf_clocks.specs.FilePackages.{has_identifier, index_in, is_material, is_zeros}
use Rattle.mxf_clocks.specs.Runs.{RunParts}
use Rattle.mxf_clocks.specs.TracksFor.{StartedClip, clip_in, is_beside, is_timed}

-- ---- rates of indexes

-- The rate that segments of one IndexSID agree on, with one more: none where they differ.
abbrev pub with_rate : Option (Option Rate) → Rate → Option Rate
with_rate None r = Some r
with_rate (Some None) r = None
with_rate (Some (Some first)) r = if is_same_rate first r then Some first else None

-- The index is timed at the rate, if its segments agree on an equal one, or it has none.
abbrev pub timed_by : Option (Option Rate) → Rate → Bool
timed_by None rate = true
timed_by (Some None) rate = false
timed_by (Some (Some first)) rate = is_same_rate first rate

abbrev pub timed_in : BTreeMap ℕ (Option Rate) → ℕ → Rate → Bool
timed_in kept index_sid rate = timed_by (get nat_cmp kept index_sid) rate

-- ---- file packages by their identifiers

-- The only one of a list.
abbrev pub only_one : {A : Type 0} → List A → Option A
only_one [] = None
only_one (x ∷ []) = Some x
only_one (x ∷ y ∷ ys) = None

-- The IndexSID of a file package that no other package has the identifier of.
abbrev pub own_index : FoundPackage → Option ℕ
own_index f =
    if not (is_material f.kind) && not (is_zeros f.properties.package_uid) then index_in f.container else None

-- The IndexSID of the file package with the identifier, if exactly one package has it.
abbrev pub index_of : List PackageAt → List ℕ → Option ℕ
index_of packages uid =
    option_and_then own_index (only_one (filter (has_identifier uid) (found_packages packages)))

-- What is kept of an identifier, with one more package.
abbrev pub with_index : Option (Option ℕ) → FoundPackage → Option ℕ
with_index kept f = if is_some kept then None else own_index f

abbrev pub index_kept : BTreeMap (List ℕ) (Option ℕ) → List ℕ → Option ℕ
index_kept kept uid = option_and_then (λ index. index) (get (slice_cmp nat_cmp) kept uid)

-- ---- origins of tracks by their packages' identifiers and their TrackIDs

abbrev pub origin_key_cmp : List ℕ × ℕ → List ℕ × ℕ → Ordering
origin_key_cmp a b = ordering_then (slice_cmp nat_cmp a.0 b.0) (nat_cmp a.1 b.1)

-- What a track says of its units.
abbrev pub track_origin : FoundTrack → TrackOrigin
track_origin t = record { rate = t.track.edit_rate; origin = t.track.origin }

-- The tracks of the packages with the identifier.
abbrev pub tracks_with : List ℕ → List FoundPackage → List FoundTrack
tracks_with uid found = flat_map (λ p. found_tracks p.tracks) (filter (has_identifier uid) found)

-- The first of the tracks that has the TrackID.
abbrev pub first_origin : ℕ → List FoundTrack → Option TrackOrigin
first_origin id tracks = option_map track_origin (find (λ t. t.track.id == id) tracks)

-- The origin, if the rate is good and equal to this one.
abbrev pub origin_if : Rate → TrackOrigin → Option ℤ
origin_if rate t = if is_same_rate t.rate rate then Some t.origin else None

abbrev pub origin_with : List PackageAt → List ℕ → ℕ → Rate → Option ℤ
origin_with packages uid id rate =
    option_and_then (origin_if rate) (first_origin id (tracks_with uid (found_packages packages)))

abbrev pub origin_kept : BTreeMap (List ℕ × ℕ) TrackOrigin → List ℕ → ℕ → Rate → Option ℤ
origin_kept kept uid id rate = option_and_then (origin_if rate) (get origin_key_cmp kept (uid, id))

-- ---- all

-- The tables are those of the segments and the packages.
pub record AreTablesOf (segments : List SegmentAtParts) (packages : List PackageAt) (t : Tables) : Type 0 where
  pub timed : (index_sid : ℕ) (rate : Rate) → timed_in t.rates.by_index index_sid rate ≡ is_timed segments index_sid rate
  pub index : (uid : List ℕ) → index_kept t.indexes.by_package uid ≡ index_of packages uid
  pub origin : (uid : List ℕ) (id : ℕ) (rate : Rate)
      → origin_kept t.origins.by_track uid id rate ≡ origin_with packages uid id rate

-- ---- clips with a known start

abbrev pub started_at : ℕ → ClipParts → StartedClip
started_at start clip = record { start = start; clip = clip }

-- The clip that the component is, if its start is known.
unfoldable pub started_in : Component → Option StartedClip
started_in c = option_and_then (λ start. option_map (started_at start) (option_and_then clip_in c.part)) c.start

-- The index of the file package that a clip of the track names, if the track fits it, and has Origin 0.
abbrev pub index_beside : (ℕ → Rate → Bool) → (List ℕ → Option ℕ) → Rate → FoundTrack → StartedClip → Option ℕ
index_beside timed index clock_rate t s =
    option_and_then (λ sid. if is_beside timed sid clock_rate t && begins_at_zero t then Some sid else None)
    (index s.clip.source_package)

-- The component is a clip that shows the file package with the identifier.
abbrev pub shows_file : (ℕ → Rate → Bool) → (List ℕ → Option ℕ) → Rate → FoundTrack → List ℕ → Component → Bool
shows_file timed index clock_rate t uid c =
    option_map_or (λ s. bytes_eq s.clip.source_package uid && is_some (index_beside timed index clock_rate t s))
    (started_in c) false

-- The run of a clip for an index, by the Origin of the track that it names.
abbrev pub run_with_origin : (List ℕ → ℕ → Rate → Option ℤ) → ℕ → ClockTrack → Rate → StartedClip → Option RunParts
run_with_origin origin index_sid c rate s =
    option_and_then (run_by index_sid c rate s) (origin s.clip.source_package s.clip.source_track rate)

abbrev pub run_beside : (ℕ → Rate → Bool) → (List ℕ → Option ℕ) → (List ℕ → ℕ → Rate → Option ℤ) → ClockTrack
    → FoundTrack → StartedClip → Option RunParts
run_beside timed index origin c t s =
    option_and_then (λ sid. run_with_origin origin sid c t.track.edit_rate s) (index_beside timed index c.rate t s)

-- The run of a component, if it is a clip of a file package that no track before shows.
abbrev pub new_run : (ℕ → Rate → Bool) → (List ℕ → Option ℕ) → (List ℕ → ℕ → Rate → Option ℤ) → (List ℕ → Bool)
    → ClockTrack → FoundTrack → Component → Option RunParts
new_run timed index origin shown c t component =
    option_and_then (λ s. if shown s.clip.source_package then None else run_beside timed index origin c t s)
    (started_in component)

-- ---- file packages with clocks of their own

-- The run that a package gives, by the index of its identifier.
unfoldable pub run_by_index : (ℕ → Rate → Bool) → (List ℕ → Option ℕ) → FoundPackage → Option RunParts
run_by_index timed index f =
    option_and_then (λ sid. option_and_then (run_by_own_clock timed f.tracks sid) (clock_of f.tracks))
    (index f.properties.package_uid)
