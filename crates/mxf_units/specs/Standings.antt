-- How the bytes of edit units stand, each by its cause (this project's profile).
use Rattle.std.specs.Prelude.{◌≡◌, ◌≢◌, ℕ, ◌<◌, ◌≤◌, ◌⊎◌, true, false, None, Some, Result, Ok, Err, List, IsSome}
use Rattle.mxf_klv.specs.Parts.{NoteParts}
use Rattle.mxf_klv.specs.Rising.{In}
use Rattle.mxf_views.specs.Partitions.{PartitionParts, partitions_of}
use Rattle.mxf_views.specs.Places.{IsGiven, IsOnlyPlace, segments_of}
use Rattle.mxf_views.specs.declared.index.place.StreamPlace.{StreamPlace}
use Rattle.mxf_places.specs.AtHand.{KnownParts}
use Rattle.mxf_places.specs.Held.{IsDisputedAt, IsHeld}
use Rattle.mxf_units.specs.declared.standing.UnitStanding.{UnitStanding}
use Rattle.mxf_units.specs.declared.standing.UnitStanding.TheVariants as standings
use Rattle.mxf_units.specs.declared.essence_zone.EssenceZone.{EssenceZone}
use Rattle.mxf_units.specs.declared.unit.Extent.{Extent}
use Rattle.mxf_units.specs.EssenceZones.{zone_of}
use Rattle.mxf_units.specs.Streams.{segments_for}
use Rattle.mxf_units.specs.Units.{IsBesideEssence, IsKnown, asked_end, end_place, extent_in}

-- A partition of a stream that begins at an offset or below it.
pub record BeginsUpTo (notes : List NoteParts) (body_sid offset : ℕ) (p : PartitionParts) : Type 0 where
  pub partition : In p (partitions_of notes)
  pub body : p.pack.numbers.body_sid ≡ body_sid
  pub begins : p.pack.numbers.body_offset ≤ offset

-- One of the last of these: none begins after it.
pub record IsLast (notes : List NoteParts) (body_sid offset : ℕ) (p : PartitionParts) : Type 0 where
  pub begins : BeginsUpTo notes body_sid offset p
  pub last : (q : PartitionParts) → BeginsUpTo notes body_sid offset q
      → q.pack.numbers.body_offset ≤ p.pack.numbers.body_offset

-- The essence is that of the only last one whose first packet is known; or there is none at all, or the only last one
-- has none, or there are more last ones and more than one of them or none has one.
abbrev pub IsZone : List NoteParts → ℕ → ℕ → Result EssenceZone UnitStanding → Type 0
IsZone notes body_sid offset (Ok zone) =
    (p : PartitionParts) × IsLast notes body_sid offset p × (zone_of notes p ≡ Some zone)
    × ((q : PartitionParts) → IsLast notes body_sid offset q → q ≢ p → zone_of notes q ≡ None)
IsZone notes body_sid offset (Err standings.NoPartition) =
    (p : PartitionParts) → ¬ BeginsUpTo notes body_sid offset p
IsZone notes body_sid offset (Err standings.Unknown) =
    (p : PartitionParts) × IsLast notes body_sid offset p × (zone_of notes p ≡ None)
    × ((q : PartitionParts) → IsLast notes body_sid offset q → q ≡ p)
IsZone notes body_sid offset (Err standings.Several) =
    (p : PartitionParts) × (q : PartitionParts) × IsLast notes body_sid offset p × IsLast notes body_sid offset q
    × (p ≢ q) × ((IsSome (zone_of notes p) × IsSome (zone_of notes q))
    ⊎ ((r : PartitionParts) → IsLast notes body_sid offset r → zone_of notes r ≡ None))
IsZone notes body_sid offset (Err _) = ⊥

-- The bytes begin or end after the limit of a zone.
pub record GoesBehind (zone : EssenceZone) (e : Extent) : Type 0 where
  pub limit : ℕ
  pub limit_is : zone.limit ≡ Some limit
  pub behind : (limit ≤ e.start) ⊎ ((end : ℕ) × (e.end ≡ Some end) × (limit < end))

-- The bytes don't lie in the zone: they go past its limit, or the first of them lies in a packet that can't be essence.
abbrev pub LiesElsewhere : List NoteParts → EssenceZone → Extent → Type 0
LiesElsewhere notes zone e = GoesBehind zone e ⊎ IsBesideEssence notes e.start

-- All offsets of a range are held, or are held or at hand, or some is either, or some is disputed.
abbrev pub AllHeld : List NoteParts → ℕ → ℕ → Type 0
AllHeld notes from to = (x : ℕ) → from ≤ x → x < to → IsHeld notes x

abbrev pub AllKnown : KnownParts → ℕ → ℕ → Type 0
AllKnown known from to = (x : ℕ) → from ≤ x → x < to → IsKnown known x

abbrev pub AnyKnown : KnownParts → ℕ → ℕ → Type 0
AnyKnown known from to = (x : ℕ) × IsKnown known x × (from ≤ x) × (x < to)

abbrev pub AnyDisputed : List NoteParts → ℕ → ℕ → Type 0
AnyDisputed notes from to = (x : ℕ) × IsDisputedAt notes x × (from ≤ x) × (x < to)

-- The bytes lie in their partition: they don't lie elsewhere, and the limit is sure, or all is held from the origin on
-- up to where they are asked about.
pub record LiesInside (notes : List NoteParts) (zone : EssenceZone) (e : Extent) : Type 0 where
  pub within : ¬ LiesElsewhere notes zone e
  pub sure : (zone.is_sure ≡ true) ⊎ AllHeld notes zone.origin (asked_end e)

-- How bytes stand if it is known where they are looked for.
abbrev pub IsStandingIn : KnownParts → EssenceZone → Extent → UnitStanding → Type 0
IsStandingIn known zone e standings.Elsewhere = LiesElsewhere known.notes zone e
IsStandingIn known zone e standings.Unsure =
    (¬ LiesElsewhere known.notes zone e) × (zone.is_sure ≡ false) × (¬ AllHeld known.notes zone.origin (asked_end e))
IsStandingIn known zone e standings.Disputed =
    LiesInside known.notes zone e × AnyDisputed known.notes e.start (asked_end e)
IsStandingIn known zone e standings.Missing =
    LiesInside known.notes zone e × (¬ AnyDisputed known.notes e.start (asked_end e))
    × (¬ AnyKnown known e.start (asked_end e))
IsStandingIn known zone e standings.Part =
    LiesInside known.notes zone e × (¬ AnyDisputed known.notes e.start (asked_end e))
    × AnyKnown known e.start (asked_end e) × ((e.end ≡ None) ⊎ ¬ AllKnown known e.start (asked_end e))
IsStandingIn known zone e standings.Held =
    LiesInside known.notes zone e × (¬ AnyDisputed known.notes e.start (asked_end e))
    × AnyKnown known e.start (asked_end e) × IsSome e.end × AllHeld known.notes e.start (asked_end e)
IsStandingIn known zone e standings.Hand =
    LiesInside known.notes zone e × (¬ AnyDisputed known.notes e.start (asked_end e))
    × AnyKnown known e.start (asked_end e) × IsSome e.end × AllKnown known e.start (asked_end e)
    × (¬ AllHeld known.notes e.start (asked_end e))
IsStandingIn known zone e _ = ⊥

-- How a unit stands whose place is known.
abbrev pub IsStandingAt : KnownParts → ℕ → ℕ → ℕ → ℕ → UnitStanding → Type 0
IsStandingAt known index_sid unit body_sid offset standing =
    IsZone known.notes body_sid offset (Err standing)
    ⊎ ((zone : EssenceZone) × IsZone known.notes body_sid offset (Ok zone)
    × IsStandingIn known zone (extent_in zone offset (end_place (segments_for known.notes index_sid) zone unit body_sid
    offset)) standing)

-- How a unit stands: no segment gives it a place, or two give different ones, or all that give one give this one.
abbrev pub IsStanding : KnownParts → ℕ → ℕ → UnitStanding → Type 0
IsStanding known index_sid unit standings.NotIndexed =
    (p : StreamPlace) → ¬ IsGiven (segments_of known.notes) index_sid unit p
IsStanding known index_sid unit standings.Ambiguous =
    (p : StreamPlace) × (q : StreamPlace) × IsGiven (segments_of known.notes) index_sid unit p
    × IsGiven (segments_of known.notes) index_sid unit q × (p ≢ q)
IsStanding known index_sid unit standing =
    (body_sid : ℕ) × (offset : ℕ) × IsOnlyPlace (segments_of known.notes) index_sid unit body_sid offset
    × IsStandingAt known index_sid unit body_sid offset standing
