-- What each unit stores of the positions so far.
use Rattle.std.proofs.Common.{◌≡◌, length}
use Rattle.mxf_timed.specs.Shown.{AreStored}
use Rattle.mxf_timed.proofs.shown.stored_in.Given as goal

abbrev pub invariant-loop-position : goal.invariant-loop-position
invariant-loop-position l = record {
  len : length l.stored.items ≡ l.range.count;
  each : AreStored l.units l.from l.position l.range.first l.stored.items;
}
