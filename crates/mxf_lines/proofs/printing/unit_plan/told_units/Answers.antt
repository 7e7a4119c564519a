use Rattle.std.proofs.Common.{◌∙◌, ◌-◌, List, ap, arith, drop, length}
use Rattle.mxf_units.specs.declared.unit.EditUnit.{EditUnit}
use Rattle.mxf_partial.specs.Wanted.{WantedParts}
use Rattle.mxf_lines.proofs.UnitLineLaws.{asked-last, wanted_length}
use Rattle.mxf_lines.proofs.printing.unit_plan.told_units.Goals as goal

pub overflow_sub-units : goal.overflow_sub-units
overflow_sub-units c =
    let w = c.args.wanted.now in
    let all = c.wanted-units.ensures.is ∙ ap (λ (v : WantedParts). v.wanted) c.requires in
    let many = ap (λ (us : List EditUnit). length us) all ∙ wanted_length w.units w.first w.count in
    omega (arith, many, c.count.ensures)

pub returns : goal.returns
returns c =
    let w = c.args.wanted.now in
    let all = c.wanted-units.ensures.is ∙ ap (λ (v : WantedParts). v.wanted) c.requires in
    c.split_at.ensures.back ∙ (λ i. drop (length (all i) - c.count.ensures i) (all i))
    ∙ asked-last w.units w.first w.count
