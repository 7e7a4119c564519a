use Rattle.std.proofs.Common.{◌∙◌, ap}
use Rattle.mxf_sets.specs.PackReadings.{agreed}
use Rattle.mxf_sets.proofs.LabelLaws.{label_says}
use Rattle.mxf_sets.proofs.pack.primer.Primer.label.Goals as goal

pub returns-clause-agreed : goal.returns-clause-agreed
returns-clause-agreed c = label_says c.args.tag c.args.self.now c.agreed.result (c.agreed.ensures
    ∙ ap agreed c.labels.ensures)
