use Rattle.mxf_klv.proofs.Common.{ℕ, List, subst, sym, IsNonDecreasing, IsNonDecreasingBy-from_sort, IfSome_then}
use Rattle.mxf_find.specs.Votes.{IsMostVoted}
use Rattle.mxf_find.proofs.CountLaws.{most-permuted}
use Rattle.mxf_find.proofs.votes.most_voted.Goals as goal

pub first_of_most-requires : goal.first_of_most-requires
first_of_most-requires c = subst (λ (l : List ℕ). IsNonDecreasing l) (sym c.deref.ensures.value)
    (IsNonDecreasingBy-from_sort (λ (x : ℕ). x) c.sort_unstable.new.self.items c.sort_unstable.ensures.sorted)

pub returns-clause-some : goal.returns-clause-some
returns-clause-some c = IfSome_then c.first_of_most.result c.first_of_most.ensures.some
    (λ v m. most-permuted c.args.votes.items c.sort_unstable.new.self.items v c.sort_unstable.ensures.permutation
    (subst (λ (l : List ℕ). IsMostVoted l v) c.deref.ensures.value m))
