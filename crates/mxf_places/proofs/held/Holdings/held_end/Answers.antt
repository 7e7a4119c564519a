use Rattle.std.proofs.Common.{ap, ◌∙◌}
use Rattle.mxf_places.specs.Held.{held_end}
use Rattle.mxf_places.proofs.HeldLaws.{held_end-is}
use Rattle.mxf_places.proofs.held.Holdings.held_end.Goals as goal

pub returns : goal.returns
returns c = held_end-is c.catalogue.result.now c.spans.result.now c.end.result c.spans.ensures.spans c.end.ensures
    ∙ ap held_end (c.catalogue.ensures ∙ c.self.view_is)
