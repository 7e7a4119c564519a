use Rattle.std.proofs.Common.{◌∙◌, ap, max}
use Rattle.mxf_map.specs.Map.{map_end}
use Rattle.mxf_map.proofs.MapLaws.{end_is}
use Rattle.mxf_map.proofs.map.layers.Layers.end.Goals as goal

pub returns-clause-end : goal.returns-clause-end
returns-clause-end c = c.max-2.ensures ∙ ap (λ x. max x 1) (c.max.ensures ∙ ap (λ x. max x c.end.result) c.edge.ensures)
    ∙ end_is (record {
      notes = c.self.inside.holdings;
      at = c.self.inside.at_hand.now;
    }) c.self.inside.missing c.end.result c.self.invariant.missing_is c.end.ensures ∙ ap map_end c.self.view_is
