use Rattle.mxf_views.proofs.Common.{◌∙◌, ap, subst, sym, KeptParts, RiseBy}
use Rattle.mxf_views.specs.declared.copy.CopyInfo.{CopyInfo}
use Rattle.mxf_views.proofs.CopyLaws.{copies_rise}
use Rattle.mxf_views.proofs.views.Views.copy_at.Goals as goal

pub find_by_key-requires : goal.find_by_key-requires
find_by_key-requires c =
    let kept = c.deref.ensures.value ∙ ap (λ (k : KeptParts). k.copies) c.self.invariant in
    let rising = copies_rise c.self.inside.catalogue c.laws.ensures.catalogue.content in
    subst (RiseBy (λ (d : CopyInfo). d.partition)) (sym kept) rising
