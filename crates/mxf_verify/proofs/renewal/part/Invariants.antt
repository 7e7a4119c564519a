-- What was put so far, with what is to come.
use Rattle.mxf_views.proofs.Common.{◌≡◌, ◌+◌, ◌≤◌, ◌++◌, [], length, reduced_union}
use Rattle.mxf_verify.specs.Renewing.{added_of, dropped_essence, dropped_of, had_essence}
use Rattle.mxf_verify.proofs.renewal.part.Given as goal

abbrev pub invariant-loop-note : goal.invariant-loop-note
invariant-loop-note l = record {
  added : reduced_union l.parted.added (added_of l.note-iterator l.new) ≡ reduced_union [] (added_of l.old l.new);
  dropped : l.parted.dropped ++ dropped_of l.note-iterator l.new ≡ dropped_of l.old l.new;
  dropped_essence : l.parted.dropped_essence + length (dropped_essence l.note-iterator l.new)
      ≡ length (dropped_essence l.old l.new);
  had_essence : l.parted.had_essence + length (had_essence l.note-iterator l.new) ≡ length (had_essence l.old l.new);
  dropped_bound : l.parted.dropped_essence + length l.note-iterator ≤ length l.old;
  had_bound : l.parted.had_essence + length l.note-iterator ≤ length l.old;
}
