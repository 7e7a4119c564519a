-- As many bytes as are filled stand in the source, where there are some.
use Rattle.std.proofs.Common.{◌≡◌, ◌-◌, ◌⊎◌, ◌≤◌, length, take}
use Rattle.std.specs.Prelude.{IfSome}
use Rattle.mxf_hand.specs.Given.{StandAt}
use Rattle.mxf_hand.proofs.given.comparing.read_exactly.Given as goal

abbrev pub invariant-reads : goal.invariant-reads
invariant-reads g l = record {
  within : l.filled ≤ length l.room;
  told : g.S.Sources.told l.sources ≡ g.S.Sources.told l.initial.sources;
  stands : (l.filled ≡ 0) ⊎ IfSome (g.S.Sources.told l.initial.sources)
      (λ given. StandAt given l.source_number l.position (take l.filled l.room));
}

abbrev pub decreases-reads : goal.decreases-reads
decreases-reads g l = length l.initial.room - l.filled
