-- The edit units that are wanted of an index, and the bytes that are wanted of them (this project's profile; key frames
-- are those that entries name, ST 377-1, Index Table Segment).
use Rattle.std.specs.Prelude.{◌≡◌, ℕ, ◌<◌, Bool, true, false, if◌then◌else◌, Option, None, Some, List, Result, Ok, Err}
use Rattle.std.specs.List.{filter_map, list_all}
use Rattle.std.specs.Option.{option_map, option_map_or, option_or}
use Rattle.mxf_klv.specs.Parts.{NoteParts}
use Rattle.mxf_klv.specs.Note.{greatest_end}
use Rattle.mxf_klv.specs.Rising.{In}
use Rattle.mxf_catalogue.specs.declared.run.Run.{Run}
use Rattle.mxf_places.specs.AtHand.{AtHandParts, LiesBetween}
use Rattle.mxf_restore.specs.declared.named.NamedPlace.{NamedPlace}
use Rattle.mxf_partial.specs.Gathered.{run_of_extent}
use Rattle.mxf_partial.specs.Named.{IsNamed, is_named}
use Rattle.mxf_units.specs.Ranges.{units_with_keys}
use Rattle.mxf_units.specs.Units.{UnitsParts, location_of, unit_of}
use Rattle.mxf_units.specs.declared.location.Location.{Location}
use Rattle.mxf_units.specs.declared.standing.UnitStanding.{UnitStanding}
use Rattle.mxf_units.specs.declared.standing.UnitStanding.TheVariants as standings
use Rattle.mxf_units.specs.declared.unit.EditUnit.{EditUnit}
use Rattle.mxf_units.specs.declared.unit.Extent.{Extent}

-- The units of an index that are asked for, `count` of them from one on; those that are wanted; and the bytes that are
-- wanted in place of those of each, if there are some.
pub record WantedParts : Type 0 where
  pub units : UnitsParts
  pub first : ℕ
  pub count : ℕ
  pub wanted : List EditUnit
  pub bytes : Option Extent

-- Those that are asked for are wanted, and those before them from the least key frame on that they name.
abbrev pub wanted_in : UnitsParts → ℕ → ℕ → WantedParts
wanted_in u first count = record {
  units = u;
  first = first;
  count = count;
  wanted = units_with_keys u first count;
  bytes = None;
}

abbrev pub notes_of : WantedParts → List NoteParts
notes_of w = w.units.known.notes

abbrev pub hand_of : WantedParts → AtHandParts
hand_of w = w.units.known.at

abbrev pub wanted_units : WantedParts → List EditUnit
wanted_units w = w.wanted

-- A segment of the index gives a unit a place that stands so.
abbrev pub is_indexed : UnitStanding → Bool
is_indexed standings.NotIndexed = false
is_indexed _ = true

-- The unit is the one of the index that has its number.
abbrev pub IsOwn : UnitsParts → EditUnit → Type 0
IsOwn u unit = unit ≡ unit_of u.known u.index_sid unit.number

-- One gives each wanted unit a place.
abbrev pub are_indexed : WantedParts → Bool
are_indexed w = list_all (λ u. is_indexed u.standing) (wanted_units w)

-- Up to where a unit's bytes may reach: to their end, or otherwise to the limit of its essence zone.
abbrev pub reach_of : Location → Option ℕ
reach_of l = option_or l.extent.end l.zone.limit

-- A pack names the limit of the essence zone, and what begins there isn't held whole.
abbrev pub HasNamedLimit : List NoteParts → Location → Type 0
HasNamedLimit notes l = (x : ℕ) × (l.zone.limit ≡ Some x) × IsNamed notes x

-- What is wanted of a unit by where it is looked for: its bytes, if it is missing or there in part; if an unknown
-- partition may lie before it, all from the origin of its essence zone on, unless a pack names what limits that.
abbrev pub WantsAt : List NoteParts → Location → UnitStanding → ℕ → Type 0
WantsAt notes l standings.Missing x = LiesBetween l.extent.start (reach_of l) x
WantsAt notes l standings.Part x = LiesBetween l.extent.start (reach_of l) x
WantsAt notes l standings.Unsure x = (¬ HasNamedLimit notes l) × LiesBetween l.zone.origin (reach_of l) x
WantsAt notes l _ x = ⊥

-- The bytes that are wanted of a unit.
abbrev pub WantsByte : UnitsParts → EditUnit → ℕ → Type 0
WantsByte u unit x =
    (l : Location) × (location_of u.known.notes u.index_sid unit.number ≡ Ok l)
    × WantsAt u.known.notes l unit.standing x

-- The offset is one of an extent, if there is one.
abbrev pub HasByte : Option Extent → ℕ → Type 0
HasByte None x = ⊥
HasByte (Some e) x = LiesBetween e.start e.end x

-- The byte is one of those that are wanted in place of the units' own, or one that is wanted of some unit.
abbrev pub IsWantedBy : WantedParts → Option Extent → ℕ → Type 0
IsWantedBy w None x = (unit : EditUnit) × In unit (wanted_units w) × WantsByte w.units unit x
IsWantedBy w (Some e) x = LiesBetween e.start e.end x

-- A byte that is wanted, as far as files reach.
pub record IsWantedByte (w : WantedParts) (x : ℕ) : Type 0 where
  pub wanted : IsWantedBy w w.bytes x
  pub within : x < greatest_end

-- The same as functions. Lemmas tie them to the relations.

abbrev pub is_limit_named : List NamedPlace → Location → Bool
is_limit_named named l = option_map_or (is_named named) l.zone.limit false

abbrev pub wanted_at : List NamedPlace → UnitStanding → Location → Option Extent
wanted_at named standings.Missing l = Some (record { start = l.extent.start; end = reach_of l })
wanted_at named standings.Part l = Some (record { start = l.extent.start; end = reach_of l })
wanted_at named standings.Unsure l =
    if is_limit_named named l then None else Some (record { start = l.zone.origin; end = reach_of l })
wanted_at named _ l = None

abbrev pub wanted_by : List NamedPlace → UnitStanding → Result Location UnitStanding → Option Extent
wanted_by named standing (Err other) = None
wanted_by named standing (Ok l) = wanted_at named standing l

-- The bytes that are wanted of a unit, if some are.
abbrev pub wanted_of : List NamedPlace → UnitsParts → EditUnit → Option Extent
wanted_of named u unit = wanted_by named unit.standing (location_of u.known.notes u.index_sid unit.number)

-- The run that is wanted of a unit, if one is.
abbrev pub wanted_run : List NamedPlace → UnitsParts → EditUnit → Option Run
wanted_run named u unit = option_map run_of_extent (wanted_of named u unit)

-- An offset of these lies below the end of files.
abbrev pub HasByteOf : List NamedPlace → UnitsParts → List EditUnit → ℕ → Type 0
HasByteOf named u units x =
    ((unit : EditUnit) × In unit units × HasByte (wanted_of named u unit) x) × (x < greatest_end)

-- An offset of those that are wanted lies there.
abbrev pub HasByteBy : List NamedPlace → WantedParts → Option Extent → ℕ → Type 0
HasByteBy named w None x = HasByteOf named w.units (wanted_units w) x
HasByteBy named w (Some e) x = LiesBetween e.start e.end x × (x < greatest_end)
