use Rattle.std.proofs.Common.{◌∙◌, ap, sym, subst}
use Rattle.mxf_catalogue.specs.Content.{IsCatalogue}
use Rattle.mxf_catalogue.specs.Disputes.{AreApart, clear_notes, is_byte_shared, whole_notes}
use Rattle.mxf_catalogue.specs.NoteLists.{StandApart, touching}
use Rattle.mxf_catalogue.proofs.KeptLaws.{union_is}
use Rattle.mxf_catalogue.proofs.PartLaws.{apart_of, clear_part, filter-both}
use Rattle.mxf_catalogue.proofs.SpanLaws.{AreApart-clear_notes, AreApart-filter}
use Rattle.mxf_catalogue.proofs.catalogue.Catalogue.clear_touching.Goals as goal

pub touched-requires-clause-apart : goal.touched-requires-clause-apart
touched-requires-clause-apart c =
    let lists = c.self.inside.lists in
    subst StandApart (sym c.deref.ensures.value) (apart_of _ lists.disputed.items c.self.invariant.kept.parts)

pub returns-clause-notes : goal.returns-clause-notes
returns-clause-notes c =
    let lists = c.self.inside.lists in
    c.of.ensures.notes ∙ ap whole_notes c.touched.ensures
    ∙ sym (filter-both (λ n. is_byte_shared c.args.note.now n) (λ n. n.whole) c.deref.result.now)
    ∙ ap (touching c.args.note.now) (ap whole_notes c.deref.ensures.value
    ∙ clear_part lists.undisputed.items lists.disputed.items c.self.invariant.kept.parts
    ∙ ap clear_notes c.self.view_is)

pub returns-clause-catalogue : goal.returns-clause-catalogue
returns-clause-catalogue c =
    let lists = c.self.inside.lists in
    subst IsCatalogue c.self.view_is (union_is lists.undisputed.items lists.disputed.items c.self.invariant.kept.parts)

pub returns-clause-apart : goal.returns-clause-apart
returns-clause-apart c =
    let all = returns-clause-catalogue c in
    subst (AreApart 0) (sym (returns-clause-notes c)) (AreApart-filter (λ n. is_byte_shared c.args.note.now n) 0
    (clear_notes c.args.self.now) (AreApart-clear_notes c.args.self.now all.content))
