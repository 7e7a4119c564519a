use Rattle.std.proofs.Common.{◌∙◌, ap, map}
use Rattle.mxf_catalogue.specs.Disputes.{disputed_parts, disputed_notes}
use Rattle.mxf_catalogue.proofs.PartLaws.{disputed_by_part}
use Rattle.mxf_catalogue.proofs.catalogue.Catalogue.disputed.Goals as goal

pub returns-clause-notes : goal.returns-clause-notes
returns-clause-notes c =
    let lists = c.self.inside.lists in
    c.of.ensures.notes ∙ ap (λ l. map (λ n. disputed_parts n l) l) c.deref.ensures.value
    ∙ disputed_by_part lists.undisputed.items lists.disputed.items c.self.invariant.kept.parts
    ∙ ap disputed_notes c.self.view_is
