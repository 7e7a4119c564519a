-- Readings that found no packet (this project's profile).
use Rattle.std.specs.Prelude.{ℕ, List, [], Option}
use Rattle.std.specs.List.{AllByRecursion}
use Rattle.mxf_klv.specs.Parts.{NoteParts}
use Rattle.mxf_hand.specs.Noting.{IsReading}
use Rattle.mxf_hand.specs.Hand.{HandBytes, read_bytes}
use Rattle.mxf_hand.specs.declared.barren.BarrenReadings.{BarrenReadings}

-- A reading from an offset on, up to an end if there is one, finds no packet, and this head.
abbrev pub IsBarren : HandBytes → (ℕ × Option ℕ) × Option NoteParts → Type 0
IsBarren h e = IsReading h.scan e.0.0 (read_bytes h e.0.1 e.0.0) [] e.1

-- Each of a table does.
abbrev pub AreAllBarren : HandBytes → List ((ℕ × Option ℕ) × Option NoteParts) → Type 0
AreAllBarren h entries = AllByRecursion (IsBarren h) entries

-- Each that is kept of a round and of the one before it does.
pub record AreBarren (h : HandBytes) (b : BarrenReadings) : Type 0 where
  pub before : AreAllBarren h b.before.entries
  pub current : AreAllBarren h b.current.entries
