use Rattle.mxf_views.proofs.Common.{◌∙◌, ap, is_some, sym}
use Rattle.mxf_units.specs.declared.unit.EditUnit.{EditUnit}
use Rattle.mxf_units.proofs.ExtentLaws.{told-is}
use Rattle.mxf_partial.proofs.many.is_told.Goals as goal

pub returns : goal.returns
returns c =
    let e = c.is_some.ensures ∙ ap (λ (u : EditUnit). is_some u.extent) c.unit.ensures in
    let t = told-is c.args.units.now.known c.args.units.now.index_sid c.args.unit in
    (λ h. t.0 (sym e ∙ h), λ h. e ∙ t.1 h)
