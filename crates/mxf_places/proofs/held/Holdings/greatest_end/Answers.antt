use Rattle.mxf_views.proofs.Common.{ap, ◌∙◌, ◌≤◌, NoteParts, In, end_of}
use Rattle.mxf_places.specs.Held.{top_of}
use Rattle.mxf_places.proofs.HeldLaws.{same_bounds, top_of-bound}
use Rattle.mxf_places.proofs.held.Holdings.greatest_end.Goals as goal

pub returns : goal.returns
returns c =
    let notes = c.catalogue.result.now in
    same_bounds c.end.result (top_of notes) (λ bound. (n : NoteParts) → In n notes → end_of n ≤ bound)
    c.end.ensures (top_of-bound notes) ∙ ap top_of (c.catalogue.ensures ∙ c.self.view_is)
