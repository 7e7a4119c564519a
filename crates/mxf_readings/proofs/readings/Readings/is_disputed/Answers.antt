use Rattle.mxf_klv.proofs.Common.{◌∙◌, List, ap, subst, sym, NoteParts, In}
use Rattle.mxf_klv.proofs.Tests.{same_bool}
use Rattle.mxf_catalogue.specs.Disputes.{IsDisputed}
use Rattle.mxf_readings.specs.Readings.{all_notes, is_disputed_there}
use Rattle.mxf_readings.proofs.SourceLaws.{disputed_says}
use Rattle.mxf_readings.proofs.readings.Readings.is_disputed.Goals as goal

pub returns : goal.returns
returns c =
    let n = c.args.note.now in
    let contents = c.args.self.now in
    let all = c.self.invariant.0 ∙ ap all_notes c.self.view_is in
    let says = disputed_says n contents in
    let P : List NoteParts → Type 0 = λ notes. In n notes × IsDisputed n notes in
    same_bool c.disputes.result (is_disputed_there contents n)
    (λ t. let d = subst P all (c.disputes.ensures.0 t) in says.1 record { joined = d.0; disputed = d.1 })
    (λ t. let d = says.0 t in c.disputes.ensures.1 (subst P (sym all) (d.joined, d.disputed)))
