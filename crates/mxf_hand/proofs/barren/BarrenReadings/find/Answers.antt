use Rattle.std.proofs.Common.{Option, IfSome, subst}
use Rattle.mxf_hand.specs.declared.given.noting.Reading.{Reading}
use Rattle.mxf_hand.specs.Noting.{IsReading}
use Rattle.mxf_hand.specs.Hand.{read_bytes}
use Rattle.mxf_hand.proofs.barren.BarrenReadings.find.Goals as goal

pub returns-in-Some-clause-reading : goal.returns-in-Some-clause-reading
returns-in-Some-clause-reading g c = λ h t b.
    let from = c.args.from in
    let bytes = read_bytes h c.args.end from in
    subst (λ (o : Option Reading). IfSome o (λ r. IsReading h.scan from bytes r.notes r.head)) c.in-Some.is
    (c.in_ok-reading.ensures h b)
