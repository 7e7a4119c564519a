-- What is there and what is to come make up the union, and there is room for it.
use Rattle.std.proofs.Common.{◌≡◌, ◌+◌, ◌≤◌, length, vec_len, vec_capacity}
use Rattle.mxf_catalogue.specs.Content.{reduced_union, union_of}
use Rattle.mxf_catalogue.specs.Covers.{IsCover}
use Rattle.mxf_catalogue.specs.NoteLists.{AreCatalogueFields}
use Rattle.mxf_catalogue.specs.Rooms.{HaveRoom}
use Rattle.mxf_catalogue.proofs.catalogue.note_lists.NoteLists.put_all.Given as goal

abbrev pub invariant-loop-note : goal.invariant-loop-note
invariant-loop-note l = record {
  whole : AreCatalogueFields l.self.undisputed.items l.self.disputed.items l.self.disputed_spans.items l.runs.items;
  cover : IsCover l.runs.items;
  content : reduced_union (union_of l.self.undisputed.items l.self.disputed.items) l.note-iterator
      ≡ reduced_union (union_of l.fn.self.undisputed.items l.fn.self.disputed.items) l.fn.notes;
  room : HaveRoom (length l.note-iterator) l.self;
  runs_room : vec_len l.runs + length l.note-iterator ≤ vec_capacity l.runs;
}
