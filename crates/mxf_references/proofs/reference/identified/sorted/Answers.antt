use Rattle.mxf_views.proofs.Common.{rules, answers_always}
use Rattle.mxf_references.proofs.IdentifiedLaws.{by_uid}
use Rattle.mxf_references.proofs.reference.identified.sorted.Goals as goal

pub returns : goal.returns
returns c =
    let sort = c.sort_unstable_by_key.ensures in
    by_uid c.args.sets _ _ c.in_ok-items.ensures sort.permutation
    (sort.sorted (λ set. set.uid) (answers_always _ _ _ (λ f a r g called. search rules)))
