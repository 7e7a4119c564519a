use Rattle.mxf_views.proofs.Common.{◌∙◌, ap, sym, List, Option, option_map, Some, NoteParts, end_of, clear_notes}
use Rattle.std.specs.Prelude.{find, ◌==◌}
use Rattle.mxf_places.specs.Held.{rip_end_by}
use Rattle.mxf_places.proofs.held.rip_end.Goals as goal

pub returns : goal.returns
returns c =
    let notes = c.args.views.now in
    let end = λ (o : Option NoteParts). option_map end_of o in
    ap Some c.end.ensures ∙ ap end (c.in_ok-pack.ensures.first ∙ ap (λ (all : List NoteParts). find (λ n. n.offset ==
    c.offset.result) (clear_notes all)) c.catalogue.ensures)
    ∙ ap (λ x. end (find (λ n. n.offset == x) (clear_notes notes))) c.offset.ensures ∙ ap (rip_end_by notes) (sym
    c.in-One.is ∙ c.rip.ensures)
