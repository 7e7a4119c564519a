use Rattle.mxf_klv.proofs.KeyAndLengthLaws.{value_read}
use Rattle.mxf_klv.proofs.packet.read_packet.Goals as goal

pub returns-in-Ok : goal.returns-in-Ok
returns-in-Ok c =
    let front = c.in-Ok.front in
    rw c.ok_or.ensures.value
    (value_read c.args.bytes.now front.key front.after.now front.ber c.packet.result c.in-Ok.ensures c.packet.ensures)
