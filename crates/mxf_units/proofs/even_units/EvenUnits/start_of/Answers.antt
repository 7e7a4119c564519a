use Rattle.std.proofs.Common.{◌∙◌, ◌*◌, ap}
use Rattle.mxf_units.specs.EvenUnits.{EvenParts}
use Rattle.mxf_units.specs.Units.{file_offset}
use Rattle.mxf_units.proofs.even_units.EvenUnits.start_of.Goals as goal

pub returns : goal.returns
returns c = c.file_offset.ensures
    ∙ (λ i. file_offset c.self.inside.zone (c.from.ensures i * c.from-2.ensures i))
    ∙ ap (λ (p : EvenParts). file_offset p.zone (p.size * c.args.unit)) c.self.view_is
