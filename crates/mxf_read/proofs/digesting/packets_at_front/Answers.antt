use Rattle.std.proofs.Common.{[], append-nil, subst}
use Rattle.mxf_read.specs.WholePackets.{StandAtFront}
use Rattle.mxf_read.proofs.digesting.packets_at_front.Goals as goal

pub returns-clause-stand : goal.returns-clause-stand
returns-clause-stand c =
    subst (StandAtFront c.args.offset c.args.bytes.now) (append-nil c.packets.packets.items)
    (c.packets.invariant.stand [] tt)
