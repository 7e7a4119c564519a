use Rattle.std.proofs.Common.{◌≡◌, false}
use Rattle.std.specs.List.{AllWithin}
use Rattle.mxf_verify.specs.Verifying.{is_digested}
use Rattle.mxf_verify.proofs.reading.next_digested.Given as goal

abbrev pub invariant-loop-place : goal.invariant-loop-place
invariant-loop-place l = AllWithin (λ c. is_digested c.note.now ≡ false) l.candidates l.fn.from l.place
