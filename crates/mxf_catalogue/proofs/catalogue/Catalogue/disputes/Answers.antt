use Rattle.mxf_klv.proofs.Common.{List, subst, sym, NoteParts, In}
use Rattle.mxf_catalogue.specs.Disputes.{IsDisputed}
use Rattle.mxf_catalogue.proofs.PartLaws.{In-disputed_part}
use Rattle.mxf_catalogue.proofs.catalogue.Catalogue.disputes.Goals as goal

pub returns : goal.returns
returns c =
    let n = c.args.note.now in
    let lists = c.self.inside.lists in
    let here = In-disputed_part lists.undisputed.items lists.disputed.items c.self.invariant.kept.parts n in
    let told = c.is_in.ensures in
    let there = λ (l : List NoteParts). In n l × IsDisputed n l in (
      λ h. subst there c.self.view_is (here.0 (subst (In n) c.deref.ensures.value (told.0 h))),
      λ h. told.1 (subst (In n) (sym c.deref.ensures.value) (here.1 (subst there (sym c.self.view_is) h))),
    )
