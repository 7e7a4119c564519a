-- Each standing has its cause.
use Rattle.std.proofs.Common.{ℕ, Result, Ok, Err, inl, inr}
use Rattle.mxf_places.specs.AtHand.{KnownParts}
use Rattle.mxf_views.specs.Places.{IsOnlyPlace, segments_of}
use Rattle.mxf_units.specs.declared.standing.UnitStanding.{UnitStanding}
use Rattle.mxf_units.specs.declared.standing.UnitStanding.TheVariants as standings
use Rattle.mxf_units.specs.declared.essence_zone.EssenceZone.{EssenceZone}
use Rattle.mxf_views.specs.declared.index.place.StreamPlace.{StreamPlace}
use Rattle.mxf_units.specs.EssenceZones.{parts_of, zone_at}
use Rattle.mxf_units.specs.Standings.{IsStanding, IsStandingAt, IsZone}
use Rattle.mxf_units.specs.Streams.{place_of, segments_for}
use Rattle.mxf_units.specs.Units.{end_place, extent_in, location_at, location_in, location_of, standing_by, unit_of}
use Rattle.mxf_units.proofs.StandingPlaces.{IsPlacing, placing}
use Rattle.mxf_units.proofs.StandingRanges.{standing-says}
use Rattle.mxf_units.proofs.StandingZones.{zone-says}

by_zone : (known : KnownParts) (index_sid unit : ℕ) (place : StreamPlace) (zone : Result EssenceZone UnitStanding)
    → IsZone known.notes place.body_sid place.offset zone
    → IsStandingAt known index_sid unit place.body_sid place.offset
    (standing_by known (location_in (segments_for known.notes index_sid) unit place zone))
by_zone known index_sid unit place (Err w) z = inl z
by_zone known index_sid unit place (Ok zone) z =
    inr (
      zone,
      z,
      standing-says known (record {
        zone = zone;
        extent = extent_in zone place.offset
            (end_place (segments_for known.notes index_sid) zone unit place.body_sid place.offset);
      }),
    )

pub at_place : (known : KnownParts) (index_sid unit body_sid offset : ℕ) (w : UnitStanding)
    → IsOnlyPlace (segments_of known.notes) index_sid unit body_sid offset
    → IsStandingAt known index_sid unit body_sid offset w → IsStanding known index_sid unit w
at_place known index_sid unit body_sid offset standings.NotIndexed o (inl z) = absurd z
at_place known index_sid unit body_sid offset standings.NotIndexed o (inr s) = absurd s.2
at_place known index_sid unit body_sid offset standings.Ambiguous o (inl z) = absurd z
at_place known index_sid unit body_sid offset standings.Ambiguous o (inr s) = absurd s.2
at_place known index_sid unit body_sid offset standings.NoPartition o s = (body_sid, offset, o, s)
at_place known index_sid unit body_sid offset standings.Several o s = (body_sid, offset, o, s)
at_place known index_sid unit body_sid offset standings.Unknown o s = (body_sid, offset, o, s)
at_place known index_sid unit body_sid offset standings.Elsewhere o s = (body_sid, offset, o, s)
at_place known index_sid unit body_sid offset standings.Unsure o s = (body_sid, offset, o, s)
at_place known index_sid unit body_sid offset standings.Disputed o s = (body_sid, offset, o, s)
at_place known index_sid unit body_sid offset standings.Missing o s = (body_sid, offset, o, s)
at_place known index_sid unit body_sid offset standings.Part o s = (body_sid, offset, o, s)
at_place known index_sid unit body_sid offset standings.Held o s = (body_sid, offset, o, s)
at_place known index_sid unit body_sid offset standings.Hand o s = (body_sid, offset, o, s)

by_place : (known : KnownParts) (index_sid unit : ℕ) (place : Result StreamPlace UnitStanding)
    → IsPlacing known.notes index_sid unit place → IsStanding known index_sid unit
    (standing_by known (location_at (parts_of known.notes) (segments_for known.notes index_sid) unit place))
by_place known index_sid unit (Ok p) h =
    let zone = zone_at (parts_of known.notes) p.body_sid p.offset in
    at_place known index_sid unit p.body_sid p.offset
    (standing_by known (location_in (segments_for known.notes index_sid) unit p zone)) h
    (by_zone known index_sid unit p zone (zone-says known.notes p.body_sid p.offset))
by_place known index_sid unit (Err standings.NotIndexed) h = h
by_place known index_sid unit (Err standings.Ambiguous) h = h
by_place known index_sid unit (Err standings.NoPartition) h = absurd h
by_place known index_sid unit (Err standings.Several) h = absurd h
by_place known index_sid unit (Err standings.Unknown) h = absurd h
by_place known index_sid unit (Err standings.Elsewhere) h = absurd h
by_place known index_sid unit (Err standings.Unsure) h = absurd h
by_place known index_sid unit (Err standings.Disputed) h = absurd h
by_place known index_sid unit (Err standings.Missing) h = absurd h
by_place known index_sid unit (Err standings.Part) h = absurd h
by_place known index_sid unit (Err standings.Held) h = absurd h
by_place known index_sid unit (Err standings.Hand) h = absurd h

pub standings_by_cause : (known : KnownParts) (index_sid unit : ℕ)
    → IsStanding known index_sid unit (unit_of known index_sid unit).standing
unfolding unit_of location_of
standings_by_cause known index_sid unit =
    by_place known index_sid unit (place_of (segments_for known.notes index_sid) unit)
    (placing known.notes index_sid unit)
