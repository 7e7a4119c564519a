use Rattle.std.proofs.Common.{sym}
use Rattle.mxf_sets.proofs.Checks.{all_pass}
use Rattle.mxf_sets.proofs.record.check.Goals as goal

pub returns-clause-passes : goal.returns-clause-passes
returns-clause-passes c = all_pass c.args.items.now c.args.fields.now (sym c.in_default-first_missing.ensures)
    (sym c.in_default-first_wrong.ensures)
