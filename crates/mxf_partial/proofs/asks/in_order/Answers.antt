use Rattle.std.proofs.Common.{rules}
use Rattle.std.proofs.lemmas.List.Sorted.{Contains-permutation, IsNonDecreasingBy-from_sort, IsPermutation-sym}
use Rattle.std.proofs.lemmas.List.Sorted.{answers_always}
use Rattle.mxf_klv.proofs.Lists.{Contains-from_In, In-from_Contains}
use Rattle.mxf_restore.specs.declared.named.NamedPlace.{NamedPlace}
use Rattle.mxf_partial.proofs.asks.in_order.Goals as goal

pub returns-clause-members : goal.returns-clause-members
returns-clause-members c = λ n.
    let before = c.args.asked.items in
    let after = c.sort_unstable_by_key.new.self.items in
    let moved = c.sort_unstable_by_key.ensures.permutation in (
      λ i. In-from_Contains n before
          (Contains-permutation after before n (IsPermutation-sym before after moved) (Contains-from_In n after i)),
      λ i. In-from_Contains n after (Contains-permutation before after n moved (Contains-from_In n before i)),
    )

pub returns-clause-rising : goal.returns-clause-rising
returns-clause-rising c = IsNonDecreasingBy-from_sort (λ (n : NamedPlace). n.place) _
    (c.sort_unstable_by_key.ensures.sorted (λ (n : NamedPlace). n.place)
    (answers_always _ _ _ (λ f a r h k. search rules)))
