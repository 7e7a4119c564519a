-- The identifiers so far, and those to come, are those of all sets.
use Rattle.std.proofs.Common.{◌≡◌, ◌||◌, List, ℕ, filter, nat_cmp}
use Rattle.std.specs.BTreeSet.{contains}
use Rattle.std.specs.Cmp.Lexicographic.{slice_cmp}
use Rattle.mxf_catalogue.specs.Disputes.{clear_notes}
use Rattle.mxf_views.specs.Copies.{is_set_note, sets_in}
use Rattle.mxf_doubts.specs.Header.{has_instance}
use Rattle.mxf_doubts.proofs.references.instances.Given as goal

abbrev pub invariant-loop-note : goal.invariant-loop-note
invariant-loop-note l = (uid : List ℕ) →
    (contains (slice_cmp nat_cmp) l.uids uid || has_instance (filter is_set_note l.note-iterator) uid)
    ≡ has_instance (sets_in l.start l.bytes (clear_notes l.views)) uid
