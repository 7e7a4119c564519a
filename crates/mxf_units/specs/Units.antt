-- Where the stored edit units lie in the file, and which of their bytes are held (ST 377-1, Index Table Segment; the
-- standings are this project's profile).
use Rattle.std.specs.Prelude.{◌≡◌, ◌≢◌, ◌↔◌, ◌⊎◌, ℕ, ◌+◌, ◌-◌, ◌^◌, ◌<◌, ◌≤◌, Bool, true, false, ◌&&◌, ◌||◌, nat_le}
use Rattle.std.specs.Prelude.{nat_lt, not, is_some, unwrap_or, if◌then◌else◌, Option, None, Some, Result, Ok, Err, List}
use Rattle.std.specs.Prelude.{filter, unsigned_abs}
use Rattle.std.specs.Option.{option_and_then, option_map, option_map_or, option_or}
use Rattle.std.specs.List.{list_all, list_any, range_with_len}
use Rattle.std.specs.Int.{is_negative}
use Rattle.mxf_klv.specs.Kind.{kind_of}
use Rattle.mxf_klv.specs.Note.{IsCovered}
use Rattle.mxf_klv.specs.Parts.{NoteParts}
use Rattle.mxf_klv.specs.declared.kinds.Kind.TheVariants as kinds
use Rattle.mxf_sets.specs.declared.segment.offset.IndexEntry.{IndexEntry}
use Rattle.mxf_views.specs.Places.{SegmentAtParts}
use Rattle.mxf_catalogue.specs.declared.run.Run.{Run}
use Rattle.mxf_catalogue.specs.Runs.{LiesIn}
use Rattle.mxf_catalogue.specs.Disputes.{undisputed_notes}
use Rattle.mxf_places.specs.AtHand.{KnownParts, has_offset}
use Rattle.mxf_places.specs.Held.{IsHeld, covers, is_disputed_at, is_held}
use Rattle.mxf_units.specs.declared.standing.UnitStanding.{UnitStanding}
use Rattle.mxf_units.specs.declared.standing.UnitStanding.TheVariants as standings
use Rattle.mxf_units.specs.declared.essence_zone.EssenceZone.{EssenceZone}
use Rattle.mxf_units.specs.declared.essence_zone.part.StreamPart.{StreamPart}
use Rattle.mxf_views.specs.declared.index.place.StreamPlace.{StreamPlace}
use Rattle.mxf_units.specs.declared.unit.Extent.{Extent}
use Rattle.mxf_units.specs.declared.unit.EditUnit.{EditUnit}
use Rattle.mxf_units.specs.declared.location.Location.{Location}
use Rattle.mxf_units.specs.Streams.{entry_of, is_given, next_of, place_of, segments_for}
use Rattle.mxf_units.specs.EssenceZones.{may_be_essence, parts_of, zone_at}
use Rattle.mxf_units.specs.Limits.{IsAlone}

-- What is asked of: what is known of a file, and an IndexSID.
pub record UnitsParts : Type 0 where
  pub known : KnownParts
  pub index_sid : ℕ

-- Some note covers the offset, or it is at hand.
abbrev pub IsKnown : KnownParts → ℕ → Type 0
IsKnown known x = IsHeld known.notes x ⊎ LiesIn known.at.hand x

-- The runs have these offsets, and no others.
abbrev pub AreKnown : KnownParts → List Run → Type 0
AreKnown known runs = (x : ℕ) → LiesIn runs x ↔ IsKnown known x

-- A packet covers the offset, whole or by its key and length, that shares no byte with another, and it is neither
-- essence nor of a kind that isn't known: no unit begins there (this project's profile).
pub record IsBesideEssence (notes : List NoteParts) (x : ℕ) : Type 0 where
  pub by : NoteParts
  pub alone : IsAlone notes by
  pub no_essence : kind_of by.key ≢ kinds.Essence
  pub known : kind_of by.key ≢ kinds.Other
  pub covered : IsCovered by x

-- The runs have these offsets, and no others.
abbrev pub AreBesideEssence : List NoteParts → List Run → Type 0
AreBesideEssence notes runs = (x : ℕ) → LiesIn runs x ↔ IsBesideEssence notes x

-- Its end is known, and each byte up to there is held.
pub record IsHeldWhole (notes : List NoteParts) (e : Extent) : Type 0 where
  pub end : ℕ
  pub end_is : e.end ≡ Some end
  pub held : (x : ℕ) → e.start ≤ x → x < end → IsHeld notes x

-- Its end is known, and each byte up to there is held or at hand.
pub record IsKnownWhole (known : KnownParts) (e : Extent) : Type 0 where
  pub end : ℕ
  pub end_is : e.end ≡ Some end
  pub each : (x : ℕ) → e.start ≤ x → x < end → IsKnown known x

-- The file offset at which an offset of a stream lies by an essence zone.
abbrev pub file_offset : EssenceZone → ℕ → ℕ
file_offset zone offset = zone.origin + (offset - zone.body_offset)

-- From a place of a stream up to another one; without one up to the end of the zone, if that is known.
abbrev pub extent_in : EssenceZone → ℕ → Option ℕ → Extent
extent_in zone offset end = record {
  start = file_offset zone offset;
  end = option_or (option_map (file_offset zone) end) (if zone.is_sure then zone.limit else None);
}

-- An offset of a stream lies behind the limit of the zone.
abbrev pub is_behind : EssenceZone → ℕ → Bool
is_behind zone offset = option_map_or (λ limit. nat_lt limit (file_offset zone offset)) zone.limit false

-- One of the segments gives the unit after this one the place. Numbers of units lie below 2^64.
abbrev pub has_next_unit : List SegmentAtParts → ℕ → StreamPlace → Bool
has_next_unit segments unit p = nat_lt (unit + 1) (2 ^ 64) && is_given p (unit + 1) segments

-- The place up to which a unit reaches: the next one of its stream. One behind the limit of the zone counts for
-- nothing, unless the unit after this one has it (this project's profile).
abbrev pub end_place : List SegmentAtParts → EssenceZone → ℕ → ℕ → ℕ → Option ℕ
end_place segments zone unit body_sid offset =
    option_and_then (λ next. if is_behind zone next && not (has_next_unit segments unit (record {
      body_sid = body_sid;
      offset = next;
    })) then None else Some next) (next_of segments body_sid offset)

-- Where the unit lies, by the essence zone in which its place is to be found.
abbrev pub location_in : List SegmentAtParts → ℕ → StreamPlace → Result EssenceZone UnitStanding
    → Result Location UnitStanding
location_in segments unit place (Err standing) = Err standing
location_in segments unit place (Ok zone) = Ok (record {
  zone = zone;
  extent = extent_in zone place.offset (end_place segments zone unit place.body_sid place.offset);
})

-- The same by its place.
abbrev pub location_at : List StreamPart → List SegmentAtParts → ℕ → Result StreamPlace UnitStanding
    → Result Location UnitStanding
location_at parts segments unit (Err standing) = Err standing
location_at parts segments unit (Ok place) =
    location_in segments unit place (zone_at parts place.body_sid place.offset)

unfoldable pub location_of : List NoteParts → ℕ → ℕ → Result Location UnitStanding
location_of notes index_sid unit =
    let segments = segments_for notes index_sid in location_at (parts_of notes) segments unit (place_of segments unit)

-- All offsets from one up to another are held, or some is disputed.
unfoldable pub are_all_held : List NoteParts → ℕ → ℕ → Bool
are_all_held notes from to = list_all (is_held notes) (range_with_len from (to - from))

-- The same of offsets that are held or at hand.
abbrev pub is_known : KnownParts → ℕ → Bool
is_known known x = is_held known.notes x || has_offset known.at.hand x

unfoldable pub are_all_known : KnownParts → ℕ → ℕ → Bool
are_all_known known from to = list_all (is_known known) (range_with_len from (to - from))

unfoldable pub is_any_known : KnownParts → ℕ → ℕ → Bool
is_any_known known from to = list_any (is_known known) (range_with_len from (to - from))

unfoldable pub is_any_disputed : List NoteParts → ℕ → ℕ → Bool
is_any_disputed notes from to = list_any (is_disputed_at notes) (range_with_len from (to - from))

-- A packet covers the offset that shares no byte with another and can't be essence.
unfoldable pub is_beside_essence : List NoteParts → ℕ → Bool
is_beside_essence notes x =
    list_any (covers x) (filter (λ n. not (may_be_essence (kind_of n.key))) (undisputed_notes notes))

-- The bytes begin or end after an end.
abbrev pub ends_behind : Extent → ℕ → Bool
ends_behind extent end = nat_le end extent.start || option_map_or (λ e. nat_lt end e) extent.end false

-- The bytes don't lie in the zone: they begin or end after its limit, or begin in a packet that can't be essence.
abbrev pub lies_elsewhere : List NoteParts → Location → Bool
lies_elsewhere notes l =
    option_map_or (ends_behind l.extent) l.zone.limit false || is_beside_essence notes l.extent.start

-- Up to where bytes are asked about: to their end, or to the first alone.
abbrev pub asked_end : Extent → ℕ
asked_end extent = unwrap_or extent.end (extent.start + 1)

-- How bytes stand that lie up to an end.
abbrev pub standing_up_to : KnownParts → Location → ℕ → UnitStanding
standing_up_to known l end =
    if lies_elsewhere known.notes l then standings.Elsewhere
    else (if not l.zone.is_sure && not (are_all_held known.notes l.zone.origin end) then standings.Unsure
    else (if is_any_disputed known.notes l.extent.start end then standings.Disputed
    else (if not (is_any_known known l.extent.start end) then standings.Missing
    else (if is_some l.extent.end && are_all_held known.notes l.extent.start end then standings.Held
    else (if is_some l.extent.end && are_all_known known l.extent.start end then standings.Hand
    else standings.Part)))))

abbrev pub standing_in : KnownParts → Location → UnitStanding
standing_in known l = standing_up_to known l (asked_end l.extent)

-- The bytes lie in their partition, as far as what is held says.
abbrev pub is_told : UnitStanding → Bool
is_told standings.Disputed = true
is_told standings.Missing = true
is_told standings.Part = true
is_told standings.Held = true
is_told standings.Hand = true
is_told _ = false

abbrev pub standing_by : KnownParts → Result Location UnitStanding → UnitStanding
standing_by known (Err standing) = standing
standing_by known (Ok l) = standing_in known l

abbrev pub extent_by : UnitStanding → Result Location UnitStanding → Option Extent
extent_by standing (Err other) = None
extent_by standing (Ok l) = if is_told standing then Some l.extent else None

-- The key frame that an entry names, if that is the number of a unit.
abbrev pub key_at : ℕ → IndexEntry → Option ℕ
key_at unit e =
    let distance = unsigned_abs e.key_frame_offset in
    if is_negative e.key_frame_offset then (if nat_le distance unit then Some (unit - distance) else None)
    else (if nat_lt (unit + distance) (2 ^ 64) then Some (unit + distance) else None)

-- A unit, by how its bytes stand and by its entry.
abbrev pub unit_by : ℕ → UnitStanding → Option Extent → Option IndexEntry → EditUnit
unit_by unit standing extent entry = record {
  number = unit;
  standing = standing;
  extent = extent;
  key = option_and_then (key_at unit) entry;
  temporal = option_map (λ e. e.temporal_offset) entry;
  flags = option_map (λ e. e.flags) entry;
}

-- The unit of this number.
unfoldable pub unit_of : KnownParts → ℕ → ℕ → EditUnit
unit_of known index_sid unit =
    let location = location_of known.notes index_sid unit in
    let standing = standing_by known location in
    unit_by unit standing (extent_by standing location) (entry_of (segments_for known.notes index_sid) unit)
