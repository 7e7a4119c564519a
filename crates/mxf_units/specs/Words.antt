-- The words for how the bytes of an edit unit stand (this project's profile).
use Rattle.std.specs.Prelude.{ℕ, List, codes}
use Rattle.mxf_units.specs.declared.standing.UnitStanding.{UnitStanding}
use Rattle.mxf_units.specs.declared.standing.UnitStanding.TheVariants as standings

abbrev pub unit_standing_name : UnitStanding → List ℕ
unit_standing_name standings.NotIndexed = codes "not-indexed"
unit_standing_name standings.Ambiguous = codes "ambiguous"
unit_standing_name standings.NoPartition = codes "no-partition"
unit_standing_name standings.Several = codes "several"
unit_standing_name standings.Unknown = codes "unknown"
unit_standing_name standings.Elsewhere = codes "elsewhere"
unit_standing_name standings.Unsure = codes "unsure"
unit_standing_name standings.Disputed = codes "disputed"
unit_standing_name standings.Missing = codes "missing"
unit_standing_name standings.Part = codes "part"
unit_standing_name standings.Held = codes "held"
unit_standing_name standings.Hand = codes "hand"
