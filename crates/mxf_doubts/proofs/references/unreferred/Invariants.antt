-- Those so far, and those to come.
use Rattle.std.proofs.Common.{◌≡◌, ◌++◌, map, filter}
use Rattle.mxf_views.specs.Copies.{is_set_note}
use Rattle.mxf_doubts.specs.Header.{refers_to_none, sets_in_copy}
use Rattle.mxf_doubts.proofs.references.unreferred.Given as goal

abbrev pub invariant-loop-note : goal.invariant-loop-note
invariant-loop-note l =
    let sets = sets_in_copy l.views l.copy in
    l.offsets.items ++ map (λ n. n.offset) (filter (refers_to_none sets) (filter is_set_note l.note-iterator))
    ≡ map (λ n. n.offset) (filter (refers_to_none sets) sets)
