use Rattle.mxf_views.proofs.Common.{◌∙◌, subst, sym, IsNonDecreasingBy}
use Rattle.mxf_hand.proofs.SettlingLaws.{starts_never_fall}
use Rattle.mxf_hand.proofs.settling.settle.Goals as goal

pub settle_each-requires-clause-order : goal.settle_each-requires-clause-order
settle_each-requires-clause-order c =
    subst (IsNonDecreasingBy (λ n. n)) (sym (c.deref.ensures.value ∙ c.in_ok-starts.ensures))
    (starts_never_fall c.catalogue-catalogue.result.now c.laws.ensures.catalogue.content)
