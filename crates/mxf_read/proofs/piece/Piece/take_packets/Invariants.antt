-- The packets of the turns so far are noted, and the others stand at the front of what is left.
use Rattle.std.proofs.Common.{drop, length}
use Rattle.mxf_read.proofs.WholePackets.{IsTaken}
use Rattle.mxf_read.proofs.piece.Piece.take_packets.Given as goal

abbrev pub invariant-loop-packet : goal.invariant-loop-packet
invariant-loop-packet l =
    IsTaken l.initial.self l.self l.fn._bytes (length l.yielded) (drop (length l.yielded) l.fn.packets)
