use Rattle.mxf_klv.proofs.Common.{◌≡◌, ◌+◌, Some, MatchOption}
use Rattle.mxf_sets.specs.Lookup.{count_of, value_of}
use Rattle.mxf_sets.proofs.local_set.Items.only.Given as goal

abbrev pub invariant-loop-item : goal.invariant-loop-item
invariant-loop-item l = MatchOption l.found ((count_of l.tag l.item-iterator ≡ count_of l.tag l.self)
    × (value_of l.tag l.item-iterator ≡ value_of l.tag l.self))
    (λ v. (count_of l.tag l.item-iterator + 1 ≡ count_of l.tag l.self) × (value_of l.tag l.self ≡ Some v.now))
