use Rattle.std.proofs.Common.{◌∙◌, ap, refl}
use Rattle.mxf_places.specs.AtHand.{KnownParts}
use Rattle.mxf_units.specs.EssenceZones.{parts_of}
use Rattle.mxf_units.specs.Streams.{segments_for}
use Rattle.mxf_units.specs.Units.{UnitsParts, extent_by, location_at, standing_by, location_of, unit_by, unit_of}
use Rattle.mxf_units.proofs.units.Units.placed.Goals as goal

pub returns-clause-unit : goal.returns-clause-unit
unfolding unit_of location_of
returns-clause-unit c =
    let known : KnownParts = record { notes = c.self.inside.holdings; at = c.self.inside.at_hand.now } in
    let unit = c.args.unit in
    let own = c.args.self.now in
    let segments = segments_for own.known.notes own.index_sid in
    let place = c.place_of-place.ensures.place ∙ c.segments_near-segments.ensures.place in
    let location = c.location_of-location.ensures.location
    ∙ ap (λ p. location_at (parts_of own.known.notes) segments unit p) place in
    let same = ap (λ (u : UnitsParts). u.known) c.self.view_is in
    let standing = c.standing_by-standing.ensures known refl c.self.invariant.3 c.self.invariant.4
    ∙ (λ i. standing_by (same i) (location i)) in
    let extent = c.extent_by.ensures ∙ (λ i. extent_by (standing i) (location i)) in
    let entry = c.entry_of-entry.ensures ∙ c.segments_near-segments.ensures.entry in
    c.unit_by.ensures ∙ (λ i. unit_by unit (standing i) (extent i) (entry i))
