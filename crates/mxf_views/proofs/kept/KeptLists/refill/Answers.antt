use Rattle.mxf_views.proofs.Common.{◌∙◌, [], KeptParts, List, NoteParts, clear_from, subst, sym, HasRoom, nothing_kept}
use Rattle.mxf_views.proofs.AboveLaws.{all_above_none, all_from_none}
use Rattle.mxf_views.proofs.KeptLaws.{kept_of_none}
use Rattle.mxf_views.proofs.kept.KeptLists.refill.Goals as goal

pub follow_above-requires-clause-kept : goal.follow_above-requires-clause-kept
follow_above-requires-clause-kept c =
    let is = c.laws.ensures in
    ([], all_above_none c.args.catalogue.now is.catalogue is.reduced, c.clear.ensures.none ∙ kept_of_none)

pub follow_above-requires-clause-room : goal.follow_above-requires-clause-room
follow_above-requires-clause-room c =
    let is = c.laws.ensures in
    let now = c.clear.new.self in
    let all = all_from_none c.args.catalogue.now is.catalogue is.reduced in
    subst (λ (parts : KeptParts). HasRoom parts (clear_from 0 c.args.catalogue.now) now) (sym c.clear.ensures.none)
    (subst (λ (clear : List NoteParts). HasRoom nothing_kept clear now) (sym all)
    (c.clear.ensures.room _ c.requires.room))
