use Rattle.std.proofs.Common.{refl}
use Rattle.mxf_read.proofs.Feeding.{none_fed}
use Rattle.mxf_read.proofs.piece.Piece.by.Goals as goal

pub returns : goal.returns
returns c = none_fed c.args.scan c.args.offset _ refl c.new.ensures refl c.new-2.ensures.items refl refl
