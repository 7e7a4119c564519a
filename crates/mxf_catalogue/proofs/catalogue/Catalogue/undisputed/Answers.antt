use Rattle.std.proofs.Common.{◌∙◌, ap}
use Rattle.mxf_catalogue.specs.Disputes.{undisputed_notes}
use Rattle.mxf_catalogue.proofs.PartLaws.{undisputed_part}
use Rattle.mxf_catalogue.proofs.catalogue.Catalogue.undisputed.Goals as goal

pub returns-clause-notes : goal.returns-clause-notes
returns-clause-notes c =
    let lists = c.self.inside.lists in
    c.of.ensures ∙ c.deref.ensures.value
    ∙ undisputed_part lists.undisputed.items lists.disputed.items c.self.invariant.kept.parts
    ∙ ap undisputed_notes c.self.view_is
