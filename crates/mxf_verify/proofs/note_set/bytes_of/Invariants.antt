-- The bytes of the notes so far.
use Rattle.mxf_views.proofs.Common.{◌↔◌, ℕ, take, LiesIn}
use Rattle.mxf_verify.specs.Verifying.{IsHeldBy}
use Rattle.mxf_verify.proofs.note_set.bytes_of.Given as goal

abbrev pub invariant-loop-member : goal.invariant-loop-member
invariant-loop-member l = (at : ℕ) → LiesIn l.bytes at ↔ IsHeldBy (take l.member-index l.members) at
