use Rattle.std.proofs.Common.{rules}
use Rattle.mxf_read.proofs.WholePackets.{some_of_front}
use Rattle.mxf_read.proofs.piece.Piece.take.Goals as goal

pub returns-in-Some : goal.returns-in-Some
returns-in-Some c = some_of_front c.args.self.now c.take_value.new.self c.args.bytes.now c.take_value.result
    (search rules)
