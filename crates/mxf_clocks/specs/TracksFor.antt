-- Which track of a package shows the units of an index (ST 377-1, Source Clip and Index Table Segment sets; which one
-- it is, and when its units are those of the index, is this project's profile).
use Rattle.std.specs.Prelude.{◌&&◌, ◌||◌, ◌==◌, ◌*◌, not, nat_lt, is_some, unsigned_abs, find, if◌then◌else◌}
use Rattle.std.specs.Prelude.{ℕ, ℤ, Bool, List, Option, Some, None}
use Rattle.std.specs.List.{list_all, list_any}
use Rattle.std.specs.Option.{option_and_then}
use Rattle.std.specs.Str.{bytes_eq}
use Rattle.mxf_sets.specs.Component.{ClipParts}
use Rattle.mxf_sets.specs.Rate.{is_good, is_same_rate}
use Rattle.mxf_sets.specs.declared.record.rate.Rate.{Rate}
use Rattle.mxf_sets.specs.declared.segment.numbers.SegmentNumbers.{SegmentNumbers}
use Rattle.mxf_views.specs.Places.{SegmentAtParts}
use Rattle.mxf_tracks.specs.declared.component.Component.{Component}
use Rattle.mxf_tracks.specs.declared.component.Part.{Part}
use Rattle.mxf_tracks.specs.declared.component.Part.TheVariants as parts
use Rattle.mxf_tracks.specs.declared.track.FoundTrack.{FoundTrack}
use Rattle.mxf_tracks.specs.declared.track.TrackAt.{TrackAt}
use Rattle.mxf_clocks.specs.ClockTracks.{begins_at_zero, components_of, found_tracks, is_essence, is_of_kind}

-- The IndexEditRate of a segment.
abbrev pub index_rate : SegmentNumbers → Rate
index_rate n = record { numerator = n.edit_rate.0; denominator = n.edit_rate.1 }

-- The segment says nothing else than that units of the index go by at the rate.
abbrev pub agrees : ℕ → Rate → SegmentAtParts → Bool
agrees index_sid rate s =
    not (s.segment.numbers.index_sid == index_sid) || is_same_rate (index_rate s.segment.numbers) rate

-- The index is timed at the rate: each segment of its IndexSID has an equal IndexEditRate.
unfoldable pub is_timed : List SegmentAtParts → ℕ → Rate → Bool
is_timed segments index_sid rate = list_all (agrees index_sid rate) segments

-- Of two good rates the first is less.
abbrev pub is_below : Rate → Rate → Bool
is_below a b =
    nat_lt (unsigned_abs a.numerator * unsigned_abs b.denominator)
    (unsigned_abs b.numerator * unsigned_abs a.denominator)

-- A track of picture, sound or data that has a good rate, at which the index is timed, and which isn't below that of
-- the clock. Which rates an index is timed at is given as a test.
unfoldable pub is_beside : (ℕ → Rate → Bool) → ℕ → Rate → FoundTrack → Bool
is_beside timed index_sid clock_rate t =
    is_of_kind is_essence t && is_good t.track.edit_rate && not (is_below t.track.edit_rate clock_rate)
    && timed index_sid t.track.edit_rate

-- A clip, and where it starts in its track.
pub record StartedClip : Type 0 where
  pub start : ℕ
  pub clip : ClipParts

-- The clip, if the part is one.
abbrev pub clip_in : Part → Option ClipParts
clip_in (parts.Clip c) = Some c
clip_in _ = None

-- The clip with its start, if it names the package.
abbrev pub naming : List ℕ → ℕ → ClipParts → Option StartedClip
naming uid start c =
    if bytes_eq c.source_package uid then Some (record { start = start; clip = c }) else None

-- A clip with a known start that names the package with this identifier as its SourcePackageID.
unfoldable pub clip_of : List ℕ → Component → Option StartedClip
clip_of uid c = option_and_then (λ start. option_and_then (naming uid start) (option_and_then clip_in c.part)) c.start

abbrev pub is_clip_of : List ℕ → Component → Bool
is_clip_of uid c = is_some (clip_of uid c)

-- The track fits the index of a file package beside a clock of this rate, has Origin 0 and has a clip that names the
-- package.
abbrev pub shows : (ℕ → Rate → Bool) → ℕ → Rate → List ℕ → FoundTrack → Bool
shows timed index_sid clock_rate uid t =
    is_beside timed index_sid clock_rate t && begins_at_zero t && list_any (is_clip_of uid) (components_of t)

-- The track for a file package, with its IndexSID and its identifier, beside a clock of this rate: the first such one.
unfoldable pub track_for : (ℕ → Rate → Bool) → ℕ → Rate → List ℕ → List TrackAt → Option FoundTrack
track_for timed index_sid clock_rate uid tracks = find (shows timed index_sid clock_rate uid) (found_tracks tracks)

-- The Origin of a track of this rate.
abbrev pub origin_at : Rate → FoundTrack → Option ℤ
origin_at rate t = if is_same_rate t.track.edit_rate rate then Some t.track.origin else None

-- The Origin of the first of the tracks that has the TrackID, if its rate is good and equal to this one.
unfoldable pub origin_of : List TrackAt → ℕ → Rate → Option ℤ
origin_of tracks id rate = option_and_then (origin_at rate) (find (λ t. t.track.id == id) (found_tracks tracks))
