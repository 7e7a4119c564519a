use Rattle.mxf_views.proofs.Common.{◌∙◌, ap, map, subst, sym, CopiesRise, renewed}
use Rattle.mxf_views.specs.declared.copy.CopyInfo.{CopyInfo}
use Rattle.mxf_views.proofs.CopyUpdates.{kept_copies_rise}
use Rattle.mxf_views.proofs.KeyedLists.{keys_never_fall}
use Rattle.mxf_views.proofs.kept.copies.follow_copies.Goals as goal

pub put-requires-clause-rising : goal.put-requires-clause-rising
put-requires-clause-rising c =
    let a = c.args.arrival.now in
    let notes = c.args.catalogue.now in
    keys_never_fall (λ (c : CopyInfo). c.partition) _ (subst CopiesRise (sym (c.renew.ensures.items
    ∙ ap (map (renewed notes a.start a.end a.can_bring_start)) c.leave.ensures.items))
    (kept_copies_rise notes a.start a.end a.can_bring_start c.args.copies.now.items c.requires.rising))
