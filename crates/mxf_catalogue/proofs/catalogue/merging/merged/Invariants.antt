-- What is there and what is to come make up the union, and there is room for it.
use Rattle.std.proofs.Common.{◌≡◌, ◌+◌, ◌++◌, ◌≤◌, length, vec_len, vec_capacity}
use Rattle.mxf_catalogue.specs.Content.{union_of}
use Rattle.mxf_catalogue.proofs.catalogue.merging.merged.Given as goal

abbrev pub invariant-loop-note : goal.invariant-loop-note
invariant-loop-note l = record {
  notes : l.room.items ++ l.note-iterator ≡ union_of l.fn.left.items l.fn.right.items;
  room : vec_len l.room + length l.note-iterator ≤ vec_capacity l.room;
}
