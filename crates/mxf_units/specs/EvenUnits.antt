-- Edit units of one size that lie side by side (ST 377-1, Edit Unit Byte Count; this project's profile).
use Rattle.std.specs.Prelude.{◌≡◌, ◌≢◌, ◌⊎◌, ℕ, ◌*◌, ◌+◌, ◌^◌, ◌<◌, ◌≤◌, Bool, true, false, Some, Ok, List, count_by}
use Rattle.std.specs.Prelude.{Option, None, Result, Err, if◌then◌else◌, ◌==◌, ◌&&◌, is_some, nat_lt, [], ◌∷◌}
use Rattle.std.specs.List.{list_all, list_any}
use Rattle.mxf_klv.specs.Rising.{In}
use Rattle.mxf_places.specs.Held.{IsDisputedAt, IsHeld}
use Rattle.mxf_sets.specs.Offset.{stream_offset}
use Rattle.mxf_sets.specs.Segment.{entry_count}
use Rattle.mxf_views.specs.Places.{SegmentAtParts}
use Rattle.mxf_units.specs.Extents.{IsTold}
use Rattle.mxf_units.specs.Standings.{AllHeld, AllKnown, AnyDisputed, AnyKnown, IsZone}
use Rattle.mxf_units.specs.Streams.{segments_for}
use Rattle.mxf_units.specs.Units.{IsBesideEssence, UnitsParts, file_offset, is_told, location_of, unit_of}
use Rattle.mxf_units.specs.declared.essence_zone.EssenceZone.{EssenceZone}
use Rattle.mxf_units.specs.declared.even_units.Common.{Common}
use Rattle.mxf_units.specs.declared.even_units.Common.TheVariants as commons
use Rattle.mxf_units.specs.declared.even_units.UnitCounts.{UnitCounts}
use Rattle.mxf_units.specs.declared.location.Location.{Location}
use Rattle.mxf_units.specs.declared.standing.UnitStanding.{UnitStanding}
use Rattle.mxf_units.specs.declared.standing.UnitStanding.TheVariants as standings
use Rattle.mxf_units.specs.declared.unit.EditUnit.{EditUnit}

-- Units of an index from one up to a later one, with a size and an essence zone.
pub record EvenParts : Type 0 where
  pub units : UnitsParts
  pub first : ℕ
  pub last : ℕ
  pub size : ℕ
  pub zone : EssenceZone

abbrev pub segments_of_even : EvenParts → List SegmentAtParts
segments_of_even p = segments_for p.units.known.notes p.units.index_sid

-- All of some segments have units of this size in this stream.
abbrev pub AreOfSize : List SegmentAtParts → ℕ → ℕ → Type 0
AreOfSize segments size body_sid =
    (s : SegmentAtParts) → In s segments
    → (s.segment.numbers.unit_bytes ≡ size) × (s.segment.numbers.body_sid ≡ body_sid)

-- They lie side by side: all segments of the index have units of this size in one stream, one of them has the first and
-- the last of these, both lie in this zone, and it is given where.
pub record AreEven (p : EvenParts) : Type 0 where
  pub order : p.first < p.last
  pub number : p.last < 2 ^ 63
  pub some : 0 < p.size
  pub body_sid : ℕ
  pub alike : AreOfSize (segments_of_even p) p.size body_sid
  pub by : SegmentAtParts
  pub held : In by (segments_of_even p)
  pub first_given : stream_offset by.segment p.first ≡ Some (p.size * p.first)
  pub last_given : stream_offset by.segment p.last ≡ Some (p.size * p.last)
  pub first_zone : IsZone p.units.known.notes body_sid (p.size * p.first) (Ok p.zone)
  pub last_zone : IsZone p.units.known.notes body_sid (p.size * p.last) (Ok p.zone)
  pub first_told : IsTold (unit_of p.units.known p.units.index_sid p.first).standing
  pub last_told : IsTold (unit_of p.units.known p.units.index_sid p.last).standing

-- Where one of them lies that isn't the last, by its number.
abbrev pub even_location : EssenceZone → ℕ → ℕ → Location
even_location zone size unit = record {
  zone = zone;
  extent = record { start = file_offset zone (size * unit); end = Some (file_offset zone (size * (unit + 1))) };
}

abbrev pub stands_held : UnitStanding → Bool
stands_held standings.Held = true
stands_held _ = false

abbrev pub stands_at_hand : UnitStanding → Bool
stands_at_hand standings.Hand = true
stands_at_hand _ = false

-- All bytes of a unit are held; or all are held or at hand, and not all are held.
abbrev pub is_held : EditUnit → Bool
is_held u = stands_held u.standing

abbrev pub is_at_hand : EditUnit → Bool
is_at_hand u = stands_at_hand u.standing

-- How many of some units are held, and how many others at hand.
abbrev pub counts_of : List EditUnit → UnitCounts
counts_of units = record { held = count_by is_held units; hand = count_by is_at_hand units }

-- All of some units are held, or all are at hand, or none of them is either.
abbrev pub IsCommon : Common → UnitStanding → Type 0
IsCommon commons.Held w = w ≡ standings.Held
IsCommon commons.Hand w = w ≡ standings.Hand
IsCommon commons.Neither w = (w ≢ standings.Held) × (w ≢ standings.Hand)

-- All bytes of a range are held, none is disputed, and essence can lie at each.
pub record AreHeldTogether (u : UnitsParts) (from to : ℕ) : Type 0 where
  pub held : AllHeld u.known.notes from to
  pub clear : ¬ AnyDisputed u.known.notes from to
  pub essence : (x : ℕ) → IsBesideEssence u.known.notes x → from ≤ x → x < to → ⊥

-- All are held or at hand, and none is held.
pub record AreAtHandTogether (u : UnitsParts) (from to : ℕ) : Type 0 where
  pub known : AllKnown u.known from to
  pub none : (x : ℕ) → IsHeld u.known.notes x → from ≤ x → x < to → ⊥

-- None is held or at hand, or all are disputed, or essence can lie at none.
abbrev pub AreNeitherTogether : UnitsParts → ℕ → ℕ → Type 0
AreNeitherTogether u from to =
    (¬ AnyKnown u.known from to) ⊎ (((x : ℕ) → from ≤ x → x < to → IsDisputedAt u.known.notes x)
    ⊎ ((x : ℕ) → from ≤ x → x < to → IsBesideEssence u.known.notes x))

abbrev pub counts_of_standing : UnitStanding → UnitCounts
counts_of_standing standings.Held = record { held = 1; hand = 0 }
counts_of_standing standings.Hand = record { held = 0; hand = 1 }
counts_of_standing _ = record { held = 0; hand = 0 }

abbrev pub counts_by : Common → ℕ → UnitCounts
counts_by commons.Held count = record { held = count; hand = 0 }
counts_by commons.Hand count = record { held = 0; hand = count }
counts_by commons.Neither count = record { held = 0; hand = 0 }

-- The essence zone in which a unit lies, if it is given where.
abbrev pub told_zone_by : UnitStanding → Result Location UnitStanding → Option EssenceZone
told_zone_by standing (Err other) = None
told_zone_by standing (Ok l) = if is_told standing then Some l.zone else None

abbrev pub told_zone : UnitsParts → ℕ → Option EssenceZone
told_zone u unit =
    told_zone_by (unit_of u.known u.index_sid unit).standing (location_of u.known.notes u.index_sid unit)

abbrev pub is_of_size : ℕ → ℕ → SegmentAtParts → Bool
is_of_size size body_sid s = (s.segment.numbers.unit_bytes == size) && (s.segment.numbers.body_sid == body_sid)

-- The size and the stream that all of some segments have.
abbrev pub common_size : List SegmentAtParts → Option (ℕ × ℕ)
common_size [] = None
common_size (s ∷ segments) =
    let n = s.segment.numbers in
    if list_all (is_of_size n.unit_bytes n.body_sid) (s ∷ segments) then Some (n.unit_bytes, n.body_sid) else None

-- A segment gives a place to each of two units.
abbrev pub has_both : ℕ → ℕ → SegmentAtParts → Bool
has_both first last s = is_some (stream_offset s.segment first) && is_some (stream_offset s.segment last)

-- A segment of the index lists units, each by an entry.
abbrev pub has_entries : SegmentAtParts → Bool
has_entries s = nat_lt 0 (entry_count s.segment)

abbrev pub lists_units : UnitsParts → Bool
lists_units u = list_any has_entries (segments_for u.known.notes u.index_sid)
