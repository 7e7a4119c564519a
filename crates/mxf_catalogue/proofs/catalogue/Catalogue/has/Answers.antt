use Rattle.mxf_klv.proofs.Common.{◌≤◌, arith, List, subst, sym, end_of, NoteParts}
use Rattle.mxf_catalogue.specs.Content.{has_note, union_of}
use Rattle.mxf_catalogue.proofs.KeptLaws.{above_new}
use Rattle.mxf_catalogue.proofs.catalogue.Catalogue.has.Goals as goal

pub returns-else-not-end_by : goal.returns-else-not-end_by
returns-else-not-end_by c =
    let n = c.args.note.now in
    let all = union_of c.self.inside.lists.undisputed.items c.self.inside.lists.disputed.items in
    let f = c.if-not-end_by.false in
    let o = c.offset.ensures.offset in (
      λ t. absurd (cc (t)),
      λ h. absurd (above_new n all (λ m i. let l : end_of m ≤ c.offset.result = c.end_by.ensures.0 f m i in
          omega (arith, l, o)) (subst (λ (l : List NoteParts). has_note l n) (sym c.self.view_is) h)),
    )
