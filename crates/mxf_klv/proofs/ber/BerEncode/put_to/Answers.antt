use Rattle.mxf_klv.proofs.WrittenParts.{WritesPart-after}
use Rattle.mxf_klv.proofs.ber.BerEncode.put_to.Goals as goal

pub returns : goal.returns
returns g c = rw (← c.spelling-spelling.ensures.spelled)
    (WritesPart-after _ _ _ _ _ _ _ _ _ c.in_ok-put.ensures.written.0 c.in_ok-put.ensures.written.1
    c.put-2.ensures.written)
