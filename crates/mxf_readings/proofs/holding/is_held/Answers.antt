use Rattle.mxf_klv.proofs.Tests.{same_bool}
use Rattle.mxf_readings.specs.Readings.{is_held}
use Rattle.mxf_readings.proofs.SourceLaws.{held_says}
use Rattle.mxf_readings.proofs.holding.is_held.Goals as goal

pub returns : goal.returns
returns c =
    let n = c.args.note.now in
    let notes = c.args.catalogue.now in
    let says = held_says n notes in
    same_bool c.holds.result (is_held n notes) (λ t. says.1 (c.holds.ensures.0 t)) (λ t. c.holds.ensures.1 (says.0 t))
