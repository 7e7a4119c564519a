-- The places that wanted units ask for, each with the pack by which it is known (this project's profile).
use Rattle.std.specs.Prelude.{◌≡◌, ℕ, ◌⊎◌, Option, Some, Ok}
use Rattle.mxf_klv.specs.Rising.{In}
use Rattle.mxf_views.specs.declared.index.place.StreamPlace.{StreamPlace}
use Rattle.mxf_units.specs.Streams.{place_of, segments_for}
use Rattle.mxf_units.specs.Units.{location_of}
use Rattle.mxf_units.specs.declared.essence_zone.part.StreamPart.{StreamPart}
use Rattle.mxf_units.specs.declared.location.Location.{Location}
use Rattle.mxf_units.specs.declared.standing.UnitStanding.TheVariants as standings
use Rattle.mxf_units.specs.declared.unit.EditUnit.{EditUnit}
use Rattle.mxf_partial.specs.Between.{IsChosen}
use Rattle.mxf_partial.specs.Named.{IsNamedBy}
use Rattle.mxf_partial.specs.Near.{MayLieAt}
use Rattle.mxf_partial.specs.Wanted.{WantedParts, notes_of, wanted_units}
use Rattle.mxf_partial.specs.Ways.{LeadsTo}

-- The unit has the place in its stream: all segments that give it one agree.
abbrev pub HasPlace : WantedParts → EditUnit → StreamPlace → Type 0
HasPlace w unit p = place_of (segments_for (notes_of w) w.units.index_sid) unit.number ≡ Ok p

-- A wanted unit has the place, and no partition of its stream is held that begins at or before it, or it lies elsewhere
-- than in the one that does.
pub record NeedsPartition (w : WantedParts) (p : StreamPlace) : Type 0 where
  pub unit : EditUnit
  pub wanted : In unit (wanted_units w)
  pub standing : (unit.standing ≡ standings.NoPartition) ⊎ (unit.standing ≡ standings.Elsewhere)
  pub place : HasPlace w unit p

-- A wanted unit has the place, and of its partition no first packet of essence is known.
pub record NeedsWay (w : WantedParts) (p : StreamPlace) : Type 0 where
  pub unit : EditUnit
  pub wanted : In unit (wanted_units w)
  pub standing : (unit.standing ≡ standings.Several) ⊎ (unit.standing ≡ standings.Unknown)
  pub place : HasPlace w unit p

-- A wanted unit is looked for in an essence zone with this limit, before which an unknown partition may lie.
pub record NeedsLimit (w : WantedParts) (limit : ℕ) : Type 0 where
  pub unit : EditUnit
  pub wanted : In unit (wanted_units w)
  pub standing : unit.standing ≡ standings.Unsure
  pub location : Location
  pub location_is : location_of (notes_of w) w.units.index_sid unit.number ≡ Ok location
  pub limit_is : location.zone.limit ≡ Some limit

-- Some wanted unit asks for the place: its partition may stand there; the way to the essence of its partition goes on
-- there; or an unknown partition may lie before it.
abbrev pub IsAskedByUnit : WantedParts → ℕ → Option ℕ → Type 0
IsAskedByUnit w x source =
    (((p : StreamPlace) × NeedsPartition w p × MayLieAt w.units p.body_sid p.offset x)
    × IsNamedBy (notes_of w) x source)
    ⊎ (((p : StreamPlace) × (part : StreamPart) × NeedsWay w p × LeadsTo (notes_of w) p.body_sid p.offset part x
    × (source ≡ Some part.partition))
    ⊎ (NeedsLimit w x × IsNamedBy (notes_of w) x source))

-- The index may go on at the place.
abbrev pub IsAskedByIndex : WantedParts → ℕ → Option ℕ → Type 0
IsAskedByIndex w x source = IsChosen w x × IsNamedBy (notes_of w) x source
