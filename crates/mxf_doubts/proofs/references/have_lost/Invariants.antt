-- One to come is lost if and only if one is.
use Rattle.std.proofs.Common.{◌≡◌, List, ℕ, flat_map, not, nat_cmp}
use Rattle.std.specs.BTreeSet.{contains}
use Rattle.std.specs.Cmp.Lexicographic.{slice_cmp}
use Rattle.std.specs.List.{list_any}
use Rattle.mxf_doubts.specs.Header.{references_of}
use Rattle.mxf_doubts.proofs.references.have_lost.Given as goal

abbrev pub invariant-loop-item : goal.invariant-loop-item
invariant-loop-item l =
    list_any (λ (uid : List ℕ). not (contains (slice_cmp nat_cmp) l.uids uid)) (flat_map references_of l.item-iterator)
    ≡ list_any (λ (uid : List ℕ). not (contains (slice_cmp nat_cmp) l.uids uid)) (flat_map references_of l.fn.items)
