-- Those so far, and those of the units to come; and the index at hand is one of the same notes.
use Rattle.std.proofs.Common.{◌≡◌, ◌++◌, drop, filter_map}
use Rattle.mxf_doubts.specs.UnitStarts.{start_of}
use Rattle.mxf_doubts.proofs.starts.UnitStarts.starts_of.Given as goal

abbrev pub invariant-loop-index_sid : goal.invariant-loop-index_sid
invariant-loop-index_sid l = record {
  starts : l.starts.items ++ filter_map (start_of l.self) (drop l.index_sid-index l.units) ≡ filter_map (start_of l.self) l.fn.units;
  notes : l.index.0 ≡ l.self;
}
