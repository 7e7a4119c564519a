-- The zones so far, with those that are to come.
use Rattle.std.proofs.Common.{◌≡◌, ◌++◌, drop}
use Rattle.mxf_doubts.specs.Sound.{reaches_from}
use Rattle.mxf_doubts.proofs.sound.with_reaches.Given as goal

abbrev pub invariant-loop-zone : goal.invariant-loop-zone
invariant-loop-zone l = l.reaches.items ++ reaches_from l.end (drop l.zone-index l.zones) ≡ reaches_from 0 l.zones
