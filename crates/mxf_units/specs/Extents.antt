-- Where the bytes of an edit unit lie, by its place in its stream (ST 377-1, Index Table Segment and Partition Pack).
use Rattle.std.specs.Prelude.{◌≡◌, ◌⊎◌, ◌+◌, ◌^◌, ◌<◌, ◌≤◌, ℕ, true, Option, None, Some, Ok, List}
use Rattle.mxf_klv.specs.Parts.{NoteParts}
use Rattle.mxf_views.specs.Places.{IsGiven, IsOnlyPlace, segments_of}
use Rattle.mxf_units.specs.declared.essence_zone.EssenceZone.{EssenceZone}
use Rattle.mxf_units.specs.declared.standing.UnitStanding.{UnitStanding}
use Rattle.mxf_units.specs.declared.standing.UnitStanding.TheVariants as standings
use Rattle.mxf_units.specs.declared.unit.Extent.{Extent}
use Rattle.mxf_units.specs.Standings.{IsZone}
use Rattle.mxf_units.specs.Streams.{IsNext, segments_for}
use Rattle.mxf_units.specs.Units.{IsBesideEssence}

-- A file offset has an offset of a stream, by an essence zone.
abbrev pub HasOffset : EssenceZone → ℕ → ℕ → Type 0
HasOffset zone offset x = (zone.body_offset ≤ offset) × (x + zone.body_offset ≡ zone.origin + offset)

-- An offset of a stream lies at the limit of the zone at most, if that has one.
abbrev pub IsWithin : EssenceZone → ℕ → Type 0
IsWithin zone offset = (limit x : ℕ) → zone.limit ≡ Some limit → HasOffset zone offset x → x ≤ limit

-- A segment of the index gives the place to the unit after this one. Numbers of units lie below 2^64.
abbrev pub IsNextUnit : List NoteParts → ℕ → ℕ → ℕ → ℕ → Type 0
IsNextUnit notes index_sid unit body_sid offset =
    (unit + 1 < 2 ^ 64)
    × IsGiven (segments_of notes) index_sid (unit + 1) (record { body_sid = body_sid; offset = offset })

-- The place up to which a unit reaches: the next one of its stream that a segment of the index gives, if that lies
-- within the limit of the zone or is one of the unit after this one. (Another one, behind the limit, is that of a unit
-- in a later partition, and segments of units between aren't held; this project's profile.)
pub record IsEndPlace (notes : List NoteParts) (index_sid unit body_sid offset : ℕ) (zone : EssenceZone) (next : ℕ)
    : Type 0 where
  pub next_is : IsNext (segments_for notes index_sid) body_sid offset next
  pub counts : IsWithin zone next ⊎ IsNextUnit notes index_sid unit body_sid next

-- That, or none if there is none.
abbrev pub IsEndPlaceOf : List NoteParts → ℕ → ℕ → ℕ → ℕ → EssenceZone → Option ℕ → Type 0
IsEndPlaceOf notes index_sid unit body_sid offset zone None =
    (next : ℕ) → ¬ IsEndPlace notes index_sid unit body_sid offset zone next
IsEndPlaceOf notes index_sid unit body_sid offset zone (Some next) =
    IsEndPlace notes index_sid unit body_sid offset zone next

-- The bytes end at that place. Without one they end at the limit of the zone if that is sure, and otherwise nowhere.
abbrev pub IsExtentEnd : List NoteParts → ℕ → ℕ → ℕ → ℕ → EssenceZone → Option ℕ → Type 0
IsExtentEnd notes index_sid unit body_sid offset zone (Some end) =
    ((next : ℕ) × IsEndPlace notes index_sid unit body_sid offset zone next × HasOffset zone next end)
    ⊎ (IsEndPlaceOf notes index_sid unit body_sid offset zone None × (zone.is_sure ≡ true) × (zone.limit ≡ Some end))
IsExtentEnd notes index_sid unit body_sid offset zone None =
    IsEndPlaceOf notes index_sid unit body_sid offset zone None
    × ((limit : ℕ) → zone.is_sure ≡ true → zone.limit ≡ Some limit → ⊥)

-- Where the bytes of a unit lie: in the one essence zone of its only place, from there up to that end, not beyond the
-- limit of the zone, and not from within a packet on that can't be essence.
pub record IsExtentOf (notes : List NoteParts) (index_sid unit : ℕ) (e : Extent) : Type 0 where
  pub body_sid : ℕ
  pub offset : ℕ
  pub place : IsOnlyPlace (segments_of notes) index_sid unit body_sid offset
  pub zone : EssenceZone
  pub is_zone : IsZone notes body_sid offset (Ok zone)
  pub start : HasOffset zone offset e.start
  pub end : IsExtentEnd notes index_sid unit body_sid offset zone e.end
  pub some : (end : ℕ) → e.end ≡ Some end → e.start < end
  pub start_within : (limit : ℕ) → zone.limit ≡ Some limit → e.start < limit
  pub end_within : (limit end : ℕ) → zone.limit ≡ Some limit → e.end ≡ Some end → end ≤ limit
  pub in_essence : ¬ IsBesideEssence notes e.start

-- If a unit stands so, it is given where it lies.
abbrev pub IsTold : UnitStanding → Type 0
IsTold standing =
    (standing ≡ standings.Disputed) ⊎ ((standing ≡ standings.Missing) ⊎ ((standing ≡ standings.Part)
    ⊎ ((standing ≡ standings.Held) ⊎ (standing ≡ standings.Hand))))
