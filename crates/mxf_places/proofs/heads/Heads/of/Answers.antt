use Rattle.mxf_views.proofs.Common.{◌≡◌, filter, map, not, rules, subst, YieldsList-from_filter, YieldsList-from_first}
use Rattle.mxf_views.proofs.Common.{map_from_collect, NoteParts}
use Rattle.std.specs.Result.{IfOk}
use Rattle.mxf_places.proofs.HeadLaws.{heads_are}
use Rattle.mxf_places.proofs.heads.Heads.of.Goals as goal

pub invariant_of-result : goal.invariant_of-result
invariant_of-result c =
    let is_head = λ (n : NoteParts). not n.whole in
    let notes = c.args.catalogue.now in
    let h = map_from_collect c.collect.result c.collect.ensures.ran (YieldsList-from_filter _ is_head
    (YieldsList-from_first (λ x. x.now) (λ s. s) notes cc) c.filter-heads.ensures.closure (λ x r q k. search rules)) in
    heads_are notes c.in_ok-collect.field-0.items c.notes.ensures.catalogue
    (subst (λ r. IfOk r (λ v. map (λ x. x.now) v.items ≡ filter is_head notes)) c.in_ok-collect.was h)
