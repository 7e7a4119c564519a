-- What wanted units ask for, by how they stand, as lists (this project's profile). Lemmas tie them to the relations of
-- Asks.
use Rattle.std.specs.Prelude.{◌≡◌, ℕ, Bool, true, false, if◌then◌else◌, Option, None, Some, List, [], ◌∷◌, ◌++◌}
use Rattle.std.specs.List.{filter_map}
use Rattle.std.specs.Option.{option_and_then, option_map, option_map_or, option_to_list}
use Rattle.std.specs.Result.{result_ok}
use Rattle.mxf_catalogue.specs.declared.run.Run.{Run}
use Rattle.mxf_restore.specs.declared.named.NamedPlace.{NamedPlace}
use Rattle.mxf_views.specs.declared.index.place.StreamPlace.{StreamPlace}
use Rattle.mxf_units.specs.Streams.{place_of, segments_for}
use Rattle.mxf_units.specs.Units.{UnitsParts, location_of}
use Rattle.mxf_units.specs.declared.location.Location.{Location}
use Rattle.mxf_units.specs.declared.placed.PlacedUnit.{PlacedUnit}
use Rattle.mxf_units.specs.declared.standing.UnitStanding.{UnitStanding}
use Rattle.mxf_units.specs.declared.standing.UnitStanding.TheVariants as standings
use Rattle.mxf_units.specs.declared.unit.EditUnit.{EditUnit}
use Rattle.mxf_partial.specs.Gathered.{run_of_extent}
use Rattle.mxf_partial.specs.Named.{is_named}
use Rattle.mxf_partial.specs.Wanted.{WantedParts, reach_of, wanted_units}
use Rattle.mxf_partial.specs.declared.questions.UnsureRun.{UnsureRun}

-- The place of a unit in its stream, if the segments that give one agree.
abbrev pub place_of_unit : UnitsParts → EditUnit → Option StreamPlace
place_of_unit u unit = result_ok (place_of (segments_for u.known.notes u.index_sid) unit.number)

-- Where a unit is looked for, if that is known.
abbrev pub location_of_unit : UnitsParts → EditUnit → Option Location
location_of_unit u unit = result_ok (location_of u.known.notes u.index_sid unit.number)

-- The limit of the essence zone in which a unit is looked for.
abbrev pub limit_of_unit : UnitsParts → EditUnit → Option ℕ
limit_of_unit u unit = option_and_then (λ l. l.zone.limit) (location_of_unit u unit)

abbrev pub partition_asked_as : UnitStanding → UnitsParts → EditUnit → Option StreamPlace
partition_asked_as standings.NoPartition u unit = place_of_unit u unit
partition_asked_as standings.Elsewhere u unit = place_of_unit u unit
partition_asked_as _ u unit = None

-- The place of a unit of which no partition that is held is known to have it.
abbrev pub partition_asked : UnitsParts → EditUnit → Option StreamPlace
partition_asked u unit = partition_asked_as unit.standing u unit

abbrev pub way_asked_as : UnitStanding → UnitsParts → EditUnit → Option StreamPlace
way_asked_as standings.Several u unit = place_of_unit u unit
way_asked_as standings.Unknown u unit = place_of_unit u unit
way_asked_as _ u unit = None

-- The place of a unit of whose partition no first packet of essence is known.
abbrev pub way_asked : UnitsParts → EditUnit → Option StreamPlace
way_asked u unit = way_asked_as unit.standing u unit

abbrev pub limit_asked_as : UnitStanding → UnitsParts → EditUnit → Option ℕ
limit_asked_as standings.Unsure u unit = limit_of_unit u unit
limit_asked_as _ u unit = None

-- The limit below which an unknown partition that has a unit may lie.
abbrev pub limit_asked : UnitsParts → EditUnit → Option ℕ
limit_asked u unit = limit_asked_as unit.standing u unit

abbrev pub number_unindexed_as : UnitStanding → EditUnit → Option ℕ
number_unindexed_as standings.NotIndexed unit = Some unit.number
number_unindexed_as _ unit = None

-- The number of a unit to which no segment gives a place.
abbrev pub number_unindexed : EditUnit → Option ℕ
number_unindexed unit = number_unindexed_as unit.standing unit

-- From a file offset up to where the bytes of a unit may reach.
abbrev pub run_from : ℕ → Location → Run
run_from start l = run_of_extent (record { start = start; end = reach_of l })

abbrev pub run_asked_as : UnitStanding → Option Location → Option Run
run_asked_as standings.Missing at = option_map (λ l. run_from l.extent.start l) at
run_asked_as standings.Part at = option_map (λ l. run_from l.extent.start l) at
run_asked_as _ at = None

-- The run of the bytes that are wanted of a unit that is missing or there in part.
abbrev pub run_asked : UnitsParts → EditUnit → Option Run
run_asked u unit = run_asked_as unit.standing (location_of_unit u unit)

-- The run of an unsure unit, and the limit of its essence zone.
abbrev pub unsure_run : Location → UnsureRun
unsure_run l = record { limit = l.zone.limit; run = run_from l.zone.origin l }

abbrev pub unsure_asked_as : UnitStanding → Option Location → Option UnsureRun
unsure_asked_as standings.Unsure at = option_map unsure_run at
unsure_asked_as _ at = None

-- The same of a unit before which an unknown partition may lie.
abbrev pub unsure_asked : UnitsParts → EditUnit → Option UnsureRun
unsure_asked u unit = unsure_asked_as unit.standing (location_of_unit u unit)

-- The run of an unsure unit, unless a pack names the limit.
abbrev pub unnamed_run : List NamedPlace → UnsureRun → Option Run
unnamed_run named r = if option_map_or (is_named named) r.limit false then None else Some r.run

-- Units, and what they ask for: the places of partitions, those from which a way to the essence goes on, the limits of
-- essence zones, the numbers of units to which no segment gives a place, and the runs of the bytes that are wanted.
pub record QuestionParts : Type 0 where
  pub units : List EditUnit
  pub partitions : List StreamPlace
  pub ways : List StreamPlace
  pub limits : List ℕ
  pub unindexed : List ℕ
  pub runs : List Run
  pub unsure : List UnsureRun

-- Units of an index, and what they ask for.
abbrev pub asked_by : UnitsParts → List EditUnit → QuestionParts
asked_by u units = record {
  units = units;
  partitions = filter_map (partition_asked u) units;
  ways = filter_map (way_asked u) units;
  limits = filter_map (limit_asked u) units;
  unindexed = filter_map number_unindexed units;
  runs = filter_map (run_asked u) units;
  unsure = filter_map (unsure_asked u) units;
}

-- The wanted units, and what they ask for.
abbrev pub questions_of : WantedParts → QuestionParts
questions_of w = asked_by w.units (wanted_units w)

-- What an unsure unit asks for that is looked for there.
abbrev pub asked_unsure : Location → QuestionParts
asked_unsure l = record {
  units = [];
  partitions = [];
  ways = [];
  limits = option_to_list l.zone.limit;
  unindexed = [];
  runs = [];
  unsure = unsure_run l ∷ [];
}

-- A unit was looked up in an index.
abbrev pub IsPlaced : UnitsParts → PlacedUnit → Type 0
IsPlaced u placed = (placed.place ≡ place_of (segments_for u.known.notes u.index_sid) placed.unit.number)
    × (placed.location ≡ location_of u.known.notes u.index_sid placed.unit.number)

-- These, and then others.
abbrev pub both : QuestionParts → QuestionParts → QuestionParts
both p q = record {
  units = p.units ++ q.units;
  partitions = p.partitions ++ q.partitions;
  ways = p.ways ++ q.ways;
  limits = p.limits ++ q.limits;
  unindexed = p.unindexed ++ q.unindexed;
  runs = p.runs ++ q.runs;
  unsure = p.unsure ++ q.unsure;
}
