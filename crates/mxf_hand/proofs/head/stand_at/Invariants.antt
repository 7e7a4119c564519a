-- The bytes so far stand there.
use Rattle.std.proofs.Common.{◌≡◌, ◌<◌, ◌+◌, ℕ, get_or}
use Rattle.mxf_hand.proofs.head.stand_at.Given as goal

abbrev pub invariant-loop-i : goal.invariant-loop-i
invariant-loop-i l = (k : ℕ) → k < l.i → get_or l.others (l.from + k) 0 ≡ get_or l.bytes k 0
