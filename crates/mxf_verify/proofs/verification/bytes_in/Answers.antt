use Rattle.mxf_views.proofs.Common.{arith}
use Rattle.mxf_places.specs.Held.{bytes_of}
use Rattle.mxf_places.proofs.ByteLaws.{bytes_within, runs_of_cover}
use Rattle.mxf_verify.proofs.verification.bytes_in.Goals as goal

pub loop-run-init : goal.loop-run-init
loop-run-init c = grind (arith, bytes_of, runs_of_cover)

pub overflow_add-bytes : goal.overflow_add-bytes
overflow_add-bytes c = grind (arith, bytes_of, bytes_within)
