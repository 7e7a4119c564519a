use Rattle.std.proofs.Common.{take}
use Rattle.mxf_klv.specs.PieceReading.{rest_in}
use Rattle.mxf_read.proofs.Feeding.{come_on}
use Rattle.mxf_read.proofs.piece.Piece.take_value.Goals as goal

pub returns-clause-fed : goal.returns-clause-fed
returns-clause-fed c = λ scan o m knows come.
    let x = take c.min-count.result c.args.bytes.now in
    c.in_ok-go_on.ensures.fed scan o m x knows
    (come_on scan c.args.self.now.at c.args.value c.take.new.self (rest_in o m) x come c.in_ok-take.ensures.same
    c.in_ok-take.ensures.taken)
