use Rattle.std.proofs.Common.{◌∙◌, ap, sym, subst}
use Rattle.mxf_catalogue.specs.Content.{IsCatalogue}
use Rattle.mxf_catalogue.specs.Disputes.{AreApart, clear_notes, whole_notes}
use Rattle.mxf_catalogue.proofs.KeptLaws.{union_is}
use Rattle.mxf_catalogue.proofs.PartLaws.{clear_part}
use Rattle.mxf_catalogue.proofs.SpanLaws.{AreApart-clear_notes}
use Rattle.mxf_catalogue.proofs.catalogue.Catalogue.clear.Goals as goal

pub returns-clause-notes : goal.returns-clause-notes
returns-clause-notes c =
    let lists = c.self.inside.lists in
    c.of.ensures.notes ∙ ap whole_notes c.deref.ensures.value
    ∙ clear_part lists.undisputed.items lists.disputed.items c.self.invariant.kept.parts ∙ ap clear_notes c.self.view_is

pub returns-clause-apart : goal.returns-clause-apart
returns-clause-apart c =
    let lists = c.self.inside.lists in
    let all = subst IsCatalogue c.self.view_is
    (union_is lists.undisputed.items lists.disputed.items c.self.invariant.kept.parts) in
    subst (AreApart 0) (sym (returns-clause-notes c)) (AreApart-clear_notes c.args.self.now all.content)
