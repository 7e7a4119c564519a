use Rattle.mxf_views.proofs.Common.{◌∙◌, List, ap, subst, sym, find, copies_of, KeptParts, StartsRise, reaches_of}
use Rattle.mxf_views.proofs.Common.{is_in_copy}
use Rattle.mxf_views.specs.declared.copy.CopyInfo.{CopyInfo}
use Rattle.mxf_views.proofs.StartsOrder.{starts_rise}
use Rattle.mxf_views.proofs.views.Views.copy_with.Goals as goal

pub copy_around-requires : goal.copy_around-requires
copy_around-requires c =
    let copies = c.deref.ensures.value ∙ ap (λ (k : KeptParts). k.copies) c.self.invariant in
    let reaches = c.deref-2.ensures.value ∙ ap (λ (k : KeptParts). k.reaches) c.self.invariant in
    record {
      starts = subst StartsRise (sym copies) (starts_rise c.self.inside.catalogue c.laws.ensures.catalogue.content);
      reaches = reaches ∙ ap reaches_of (sym copies);
    }

pub returns : goal.returns
returns c =
    let kept = c.deref.ensures.value ∙ ap (λ (k : KeptParts). k.copies) c.self.invariant in
    c.copy_around.ensures ∙ ap (λ (cs : List CopyInfo). find (is_in_copy c.args.note.now) cs) (kept
    ∙ ap copies_of c.self.view_is)
