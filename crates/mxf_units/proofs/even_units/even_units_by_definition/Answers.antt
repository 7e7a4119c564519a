use Rattle.mxf_units.proofs.EvenLaws.{stands_at}
use Rattle.mxf_units.proofs.even_units.even_units_by_definition.Goals as goal

pub returns : goal.returns
returns c = λ p k e low high. stands_at p e k low high
