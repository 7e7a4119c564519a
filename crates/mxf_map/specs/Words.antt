-- The words for how bytes stand (this project's profile).
use Rattle.std.specs.Prelude.{ℕ, List, codes}
use Rattle.mxf_map.specs.declared.extent.ByteStanding.{ByteStanding}
use Rattle.mxf_map.specs.declared.extent.ByteStanding.TheVariants.{Disputed, Held, Hand, Missing}

abbrev pub byte_standing_name : ByteStanding → List ℕ
byte_standing_name Disputed = codes "disputed"
byte_standing_name Held = codes "held"
byte_standing_name Hand = codes "hand"
byte_standing_name Missing = codes "missing"
