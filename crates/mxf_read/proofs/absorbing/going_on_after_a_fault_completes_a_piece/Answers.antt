use Rattle.mxf_read.proofs.GoingOn.{completed}
use Rattle.mxf_read.proofs.absorbing.going_on_after_a_fault_completes_a_piece.Goals as goal

pub returns : goal.returns
returns c = record {
  from = λ old new offset taken more noted at a. (completed old new offset taken noted at a more).from;
  content = λ old new offset taken more noted at a. (completed old new offset taken noted at a more).content;
  count = λ old new offset taken more noted at a. (completed old new offset taken noted at a more).count;
  stop = λ old new offset taken more noted at a. (completed old new offset taken noted at a more).stop;
}
