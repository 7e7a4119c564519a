use Rattle.mxf_views.proofs.Common.{◌≡◌, ◌∙◌, ap, arith, length, sym}
use Rattle.mxf_units.proofs.RangeLaws.{units_length}
use Rattle.mxf_units.proofs.range.UnitsLeftIterator.size_hint.Goals as goal

pub returns-clause-lower : goal.returns-clause-lower
returns-clause-lower c =
    let s = c.self.inside in
    let same = sym (ap length c.self.view_is) ∙ units_length s.units.now s.next s.left in
    grind (arith, same)

pub returns-clause-upper : goal.returns-clause-upper
returns-clause-upper c =
    let s = c.self.inside in
    let same = sym (ap length c.self.view_is) ∙ units_length s.units.now s.next s.left in
    grind (arith, same)
