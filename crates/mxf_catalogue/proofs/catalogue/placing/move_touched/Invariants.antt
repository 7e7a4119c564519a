use Rattle.std.proofs.Common.{◌≡◌, ◌+◌, ◌≤◌, length, vec_len, vec_capacity}
use Rattle.std.specs.Vec.Iter.{drain_items}
use Rattle.mxf_catalogue.specs.Content.{IsContent, union_of}
use Rattle.mxf_catalogue.specs.NoteLists.{touching}
use Rattle.mxf_catalogue.proofs.catalogue.placing.move_touched.Given as goal

abbrev pub invariant-loop-moved : goal.invariant-loop-moved
invariant-loop-moved l = record {
  moved : union_of l.others.items (drain_items l.moved-iterator) ≡ union_of l.fn.others.items
      (touching l.note l.fn.notes.items);
  content : IsContent l.others.items;
  len : vec_len l.others + length (drain_items l.moved-iterator) ≤ vec_len l.fn.others + length
      (touching l.note l.fn.notes.items);
  capacity : vec_capacity l.others ≡ vec_capacity l.fn.others;
}
