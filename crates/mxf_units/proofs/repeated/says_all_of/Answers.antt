use Rattle.std.proofs.Common.{◌∙◌, sym}
use Rattle.mxf_units.proofs.RepeatedLaws.{says-all}
use Rattle.mxf_units.proofs.repeated.says_all_of.Goals as goal

pub returns : goal.returns
returns c = λ t.
    says-all c.args.segment.now c.args.other.now c.in-Some.units c.in-Some-of.others
    (sym c.of.ensures.units ∙ c.in-Some.is) (sym c.of-2.ensures.units ∙ c.in-Some-of.is) (c.has_all_of.ensures t)
    c.in-Some-of.ensures.unlisted
