use Rattle.std.proofs.Common.{arith}
use Rattle.mxf_read.proofs.GoingOn.{continues, completes}
use Rattle.mxf_read.proofs.absorbing.going_on_completes_a_piece.Goals as goal

pub returns : goal.returns
returns c = record {
  within = λ noted offset bytes at h. let r = continues noted offset bytes at h in (
    r.from,
    let below = r.within in
        omega arith,
  );
  notes = λ noted offset bytes at h. (continues noted offset bytes at h).notes;
  stop = λ noted offset bytes at h. (continues noted offset bytes at h).stop;
  content = completes;
}
