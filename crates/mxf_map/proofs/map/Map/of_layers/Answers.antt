use Rattle.mxf_views.proofs.Common.{List, ap, length, sym, ◌∙◌, NoteParts, disputed_notes}
use Rattle.mxf_map.specs.Map.{gaps_below, held_below}
use Rattle.mxf_map.proofs.map.Map.of_layers.Goals as goal

pub returns : goal.returns
returns c =
    let known = c.args.layers.now in
    let end = c.end-end.ensures.end in record {
      end = end;
      held = c.held_bytes.ensures ∙ ap (held_below known.notes) (sym end);
      hand = c.hand_bytes.ensures;
      gaps = c.in_ok-gaps.ensures
          ∙ ap (λ (l : List NoteParts). gaps_below l c.end-end.result) c.holdings-holdings.ensures;
      disputed = c.disputed.ensures ∙ ap (λ (l : List NoteParts). length (disputed_notes l))
          (c.catalogue.ensures ∙ c.views.ensures ∙ c.holdings-holdings.ensures);
      cell = c.cell_size-cell.ensures.size;
      marks = c.in_ok-marks.ensures;
    }
