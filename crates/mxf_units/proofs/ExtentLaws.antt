-- Where the bytes of units lie, and of which units that is told.
use Rattle.mxf_views.proofs.Common.{◌≡◌, ◌↔◌, ◌<◌, ◌≤◌, ℕ, Bool, true, false, List, Option, None, Some, Result, Ok, Err}
use Rattle.mxf_views.proofs.Common.{IsSome, ap, arith, if◌then◌else◌, inl, inr, is_some, option_map, refl, subst}
use Rattle.mxf_views.proofs.Common.{cases_lt, same_Some, NoteParts, guarded, PartitionParts, IsOnlyPlace, segments_of}
use Rattle.mxf_views.specs.declared.index.place.StreamPlace.{StreamPlace}
use Rattle.mxf_places.specs.AtHand.{KnownParts}
use Rattle.mxf_units.specs.declared.standing.UnitStanding.{UnitStanding}
use Rattle.mxf_units.specs.declared.essence_zone.EssenceZone.{EssenceZone}
use Rattle.mxf_units.specs.declared.location.Location.{Location}
use Rattle.mxf_units.specs.declared.unit.Extent.{Extent}
use Rattle.mxf_units.specs.EssenceZones.{first_packet, parts_of, zone_at, zone_by, zone_of}
use Rattle.mxf_units.specs.Extents.{HasOffset, IsExtentEnd, IsExtentOf, IsTold}
use Rattle.mxf_units.specs.Standings.{IsStandingIn, IsZone, LiesElsewhere}
use Rattle.mxf_units.specs.Streams.{place_of, segments_for}
use Rattle.mxf_units.specs.Units.{end_place, extent_by, extent_in, is_told, location_at, location_in, location_of}
use Rattle.mxf_units.specs.Units.{standing_by, standing_in, unit_of}
use Rattle.mxf_units.proofs.HeldUnits.{location-untold}
use Rattle.mxf_units.proofs.LimitLaws.{zone-by}
use Rattle.mxf_units.proofs.EndPlaceLaws.{extent_end-told, in_zone}
use Rattle.mxf_units.proofs.StandingPlaces.{IsPlacing, placing}
use Rattle.mxf_units.proofs.StandingRanges.{standing-says}
use Rattle.mxf_units.proofs.StandingZones.{zone-says}
use Rattle.mxf_units.specs.declared.standing.UnitStanding.TheVariants as standings

-- ---- of which units it is told

pub told-says : (w : UnitStanding) → is_told w ≡ true → IsTold w
told-says standings.NotIndexed e = absurd cc
told-says standings.Ambiguous e = absurd cc
told-says standings.NoPartition e = absurd cc
told-says standings.Several e = absurd cc
told-says standings.Unknown e = absurd cc
told-says standings.Elsewhere e = absurd cc
told-says standings.Unsure e = absurd cc
told-says standings.Disputed e = inl refl
told-says standings.Missing e = inr (inl refl)
told-says standings.Part e = inr (inr (inl refl))
told-says standings.Held e = inr (inr (inr (inl refl)))
told-says standings.Hand e = inr (inr (inr (inr refl)))

pub says-told : (w : UnitStanding) → IsTold w → is_told w ≡ true
says-told w (inl e) = ap is_told e
says-told w (inr (inl e)) = ap is_told e
says-told w (inr (inr (inl e))) = ap is_told e
says-told w (inr (inr (inr (inl e)))) = ap is_told e
says-told w (inr (inr (inr (inr e)))) = ap is_told e

some_test : (b : Bool) (e : Extent) → IsSome (if b then Some e else None) → b ≡ true
some_test true e h = refl
some_test false e h = absurd cc

told-by : (known : KnownParts) (location : Result Location UnitStanding)
    → ((v : UnitStanding) → location ≡ Err v → is_told v ≡ false)
    → IsSome (extent_by (standing_by known location) location) ↔ IsTold (standing_by known location)
told-by known (Err v) untold = (
  λ h. absurd cc,
  λ t. let a = says-told v t in let b = untold v refl in absurd (cc (a, b)),
)
told-by known (Ok l) untold =
    let w = standing_in known l in (
      λ h. told-says w (some_test (is_told w) l.extent h),
      λ t. ap (λ b. is_some (if b then Some l.extent else None)) (says-told w t),
    )

pub told-is : (known : KnownParts) (index_sid unit : ℕ)
    → IsSome (unit_of known index_sid unit).extent ↔ IsTold (unit_of known index_sid unit).standing
unfolding unit_of
told-is known index_sid unit =
    told-by known (location_of known.notes index_sid unit) (location-untold known.notes index_sid unit)

-- ---- where the bytes lie

-- The bytes of a unit of which it is told don't lie elsewhere.
pub told-within : (known : KnownParts) (zone : EssenceZone) (e : Extent) (w : UnitStanding)
    → IsStandingIn known zone e w → is_told w ≡ true → ¬ LiesElsewhere known.notes zone e
told-within known zone e standings.NotIndexed s t = absurd cc
told-within known zone e standings.Ambiguous s t = absurd cc
told-within known zone e standings.NoPartition s t = absurd cc
told-within known zone e standings.Several s t = absurd cc
told-within known zone e standings.Unknown s t = absurd cc
told-within known zone e standings.Elsewhere s t = absurd cc
told-within known zone e standings.Unsure s t = absurd cc
told-within known zone e standings.Disputed s t = s.0.within
told-within known zone e standings.Missing s t = s.0.within
told-within known zone e standings.Part s t = s.0.within
told-within known zone e standings.Held s t = s.0.within
told-within known zone e standings.Hand s t = s.0.within

pub zone-begins : (notes : List NoteParts) (p : PartitionParts) (zone : EssenceZone) → zone_of notes p ≡ Some zone
    → zone.body_offset ≡ p.pack.numbers.body_offset
unfolding zone_of
zone-begins notes p zone e =
    elim (first_packet notes p) as (λ (o : Option NoteParts). option_map (zone_by notes p) o ≡ Some zone
    → zone.body_offset ≡ p.pack.numbers.body_offset) [
      | None ↦ λ f. absurd cc
      | Some n ↦ λ f.
          let is = zone-by notes p n in
          subst (λ (z : EssenceZone). z.body_offset ≡ p.pack.numbers.body_offset) (same_Some _ _ f) is.body_offset
    ] e

module _ (notes : List NoteParts) (index_sid unit body_sid offset : ℕ) (zone : EssenceZone)
    (low : zone.body_offset ≤ offset) where
  module _ (e : Extent) (start : HasOffset zone offset e.start) (within : ¬ LiesElsewhere notes zone e) where
    start-below : (limit : ℕ) → zone.limit ≡ Some limit → e.start < limit
    start-below limit is =
        elim (cases_lt e.start limit) [
          | inl l ↦ l
          | inr h ↦ absurd (within (inl record { limit = limit; limit_is = is; behind = inl h }))
        ]

    end-within : (limit end : ℕ) → zone.limit ≡ Some limit → e.end ≡ Some end → end ≤ limit
    end-within limit end is at =
        elim (cases_lt limit end) [
          | inl l ↦ absurd (within (inl record { limit = limit; limit_is = is; behind = inr (end, at, l) }))
          | inr h ↦ h
        ]

    some-by : (end : ℕ) → IsExtentEnd notes index_sid unit body_sid offset zone (Some end) → e.start < end
    some-by end (inl n) =
        let above = n.1.next_is.above in
        let at = n.2.1 in
        let from = start.1 in omega (arith, above, at, from)
    some-by end (inr l) = start-below end l.2

  extent-of : (e : Extent) → HasOffset zone offset e.start → IsExtentEnd notes index_sid unit body_sid offset zone e.end
      → ¬ LiesElsewhere notes zone e → IsOnlyPlace (segments_of notes) index_sid unit body_sid offset
      → IsZone notes body_sid offset (Ok zone) → IsExtentOf notes index_sid unit e
  extent-of e start end within place is_zone = record {
    body_sid = body_sid;
    offset = offset;
    place = place;
    zone = zone;
    is_zone = is_zone;
    start = start;
    end = end;
    some = λ x at. some-by e start within x
        (subst (λ (o : Option ℕ). IsExtentEnd notes index_sid unit body_sid offset zone o) at end);
    start_within = start-below e start within;
    end_within = end-within e start within;
    in_essence = λ b. within (inr b);
  }

module _ (known : KnownParts) (index_sid unit : ℕ) where
  by-zone : (place : StreamPlace) (zone : Result EssenceZone UnitStanding) (e : Extent)
      → IsOnlyPlace (segments_of known.notes) index_sid unit place.body_sid place.offset
      → IsZone known.notes place.body_sid place.offset zone
      → extent_by (standing_by known (location_in (segments_for known.notes index_sid) unit place zone))
      (location_in (segments_for known.notes index_sid) unit place zone) ≡ Some e
      → IsExtentOf known.notes index_sid unit e
  by-zone place (Err w) e only is h = absurd cc
  by-zone place (Ok zone) e only is h =
      let end = end_place (segments_for known.notes index_sid) zone unit place.body_sid place.offset in
      let l : Location = record { zone = zone; extent = extent_in zone place.offset end } in
      let g = guarded (is_told (standing_in known l)) (Some l.extent) e h in
      let at = zone-begins known.notes is.0 zone is.2 in
      let from = is.1.begins.begins in
      let low : zone.body_offset ≤ place.offset = omega (arith, at, from) in
      subst (IsExtentOf known.notes index_sid unit) (same_Some _ _ g.1)
      (extent-of known.notes index_sid unit place.body_sid place.offset zone low l.extent
      (in_zone zone place.offset low) (extent_end-told known.notes index_sid unit place.body_sid place.offset zone low)
      (told-within known zone l.extent (standing_in known l) (standing-says known l) g.0) only is)

  by-place : (place : Result StreamPlace UnitStanding) (e : Extent) → IsPlacing known.notes index_sid unit place
      → extent_by (standing_by known
      (location_at (parts_of known.notes) (segments_for known.notes index_sid) unit place))
      (location_at (parts_of known.notes) (segments_for known.notes index_sid) unit place) ≡ Some e
      → IsExtentOf known.notes index_sid unit e
  by-place (Err w) e is h = absurd cc
  by-place (Ok p) e is h = by-zone p (zone_at (parts_of known.notes) p.body_sid p.offset) e is
      (zone-says known.notes p.body_sid p.offset) h

  pub extent-is : (e : Extent) → (unit_of known index_sid unit).extent ≡ Some e
      → IsExtentOf known.notes index_sid unit e
  unfolding unit_of location_of
  extent-is e h = by-place (place_of (segments_for known.notes index_sid) unit) e (placing known.notes index_sid unit) h
