use Rattle.std.proofs.Common.{◌∙◌}
use Rattle.mxf_units.proofs.RepeatedLaws.{said-lists}
use Rattle.mxf_units.proofs.even_units.lists_units.Goals as goal

pub returns : goal.returns
returns c = c.has_entries_any.ensures ∙ said-lists _ c.segments.result.now c.segments.ensures
