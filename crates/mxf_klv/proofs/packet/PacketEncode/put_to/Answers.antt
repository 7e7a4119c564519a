use Rattle.mxf_klv.proofs.Common.{err_from_is_err_and, length_bytes}
use Rattle.mxf_klv.proofs.WrittenParts.{StopsIn-middle, WritesPart-after}
use Rattle.mxf_klv.proofs.packet.PacketEncode.put_to.Goals as goal

pub returns-in_err-put_to : goal.returns-in_err-put_to
returns-in_err-put_to g c =
    let p = err_from_is_err_and c.from_residual-in_err-put_to.result c.from_residual-in_err-put_to.ensures.1 in
    rw (p.1, p.2, ← c.self.view_is, ← c.self.invariant.1, ← c.bytes.ensures.bytes) (
      StopsIn-middle _ _ _ _ _ _ c.bytes.result
          (length_bytes c.self.inside.ber.width c.self.inside.ber.value) c.self.inside.value.now
          c.in_ok-put.ensures.written.0 c.in_ok-put.ensures.written.1 c.in_err-put_to.ensures.0,
      c.in_err-put_to.ensures.1,
    )

pub returns : goal.returns
returns g c = rw (← c.self.view_is, ← c.self.invariant.1, ← c.bytes.ensures.bytes)
    (WritesPart-after _ _ _ _ _ _ _ _ _ c.in_ok-put.ensures.written.0 c.in_ok-put.ensures.written.1
    (WritesPart-after _ _ _ _ _ _ _ _ _ c.in_ok-put_to.ensures.0 c.in_ok-put_to.ensures.1 c.put-2.ensures.written))
