-- Offsets stand alike up to where one has come.
use Rattle.std.proofs.Common.{◌≡◌, ◌-◌, ◌<◌, ◌≤◌, ℕ}
use Rattle.mxf_map.specs.Extents.{standing_at}
use Rattle.mxf_map.proofs.extent.ByteStandings.end_of.Given as goal

abbrev pub invariant-loop-to : goal.invariant-loop-to
invariant-loop-to l = record {
  above : l.from < l.to;
  within : l.to ≤ l.end;
  same : (x : ℕ) → l.from ≤ x → x < l.to → standing_at l.self x ≡ standing_at l.self l.from;
}

abbrev pub decreases-loop-to : goal.decreases-loop-to
decreases-loop-to l = l.end - l.to
