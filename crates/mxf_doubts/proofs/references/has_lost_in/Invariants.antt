-- One to come is lost if and only if one is, and each has sixteen bytes.
use Rattle.std.proofs.Common.{◌≡◌, List, ℕ, length, not, nat_cmp}
use Rattle.std.specs.BTreeSet.{contains}
use Rattle.std.specs.Cmp.Lexicographic.{slice_cmp}
use Rattle.std.specs.List.{AllByRecursion, list_any}
use Rattle.mxf_sets.specs.Batch.{batch_items}
use Rattle.mxf_doubts.proofs.references.has_lost_in.Given as goal

abbrev pub invariant-loop-reference : goal.invariant-loop-reference
invariant-loop-reference l =
    (list_any (λ (uid : List ℕ). not (contains (slice_cmp nat_cmp) l.uids uid)) l.reference-iterator
    ≡ list_any (λ (uid : List ℕ). not (contains (slice_cmp nat_cmp) l.uids uid)) (batch_items l.batch))
    × AllByRecursion (λ (uid : List ℕ). length uid ≡ 16) l.reference-iterator
