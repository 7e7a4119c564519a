use Rattle.std.proofs.Common.{◌∙◌, ◌+◌, ◌/◌, ◌<◌, ◌≤◌, ℕ, IfSome, Option, arith, subst}
use Rattle.mxf_units.specs.EvenUnits.{IsCommon}
use Rattle.mxf_units.specs.Units.{unit_of}
use Rattle.mxf_units.specs.declared.even_units.Common.{Common}
use Rattle.mxf_units.proofs.EvenLaws.{both_counts, common_counts}
use Rattle.mxf_units.proofs.even_units.EvenUnits.+counts_from.Goals as goal

pub returns-in-Some-clause-counts : goal.returns-in-Some-clause-counts
returns-in-Some-clause-counts t c = c.counts_by.ensures.counts
    ∙ common_counts c.args.self.now.units c.in-Some.common c.args.from c.args.count
    (subst (λ (o : Option Common). IfSome o (λ common. (k : ℕ) → c.args.from ≤ k → k < c.args.from + c.args.count
    → IsCommon common (unit_of c.args.self.now.units.known c.args.self.now.units.index_sid k).standing)) c.in-Some.is
    c.common.ensures)

pub returns-clause-counts : goal.returns-clause-counts
returns-clause-counts t c =
    both_counts c.args.self.now.units c.args.from (c.args.count / 2) c.args.count c.counts_from-before.result
    c.counts_from-behind.result (omega arith) c.counts_from-before.ensures.counts c.counts_from-behind.ensures.counts
