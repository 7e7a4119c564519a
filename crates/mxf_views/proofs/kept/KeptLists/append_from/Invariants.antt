-- What is there and what is to come is what was before and what is kept of the new notes, and there is room for it.
use Rattle.mxf_views.proofs.Common.{◌≡◌, clear_from, kept_partition, kept_random_index_pack, kept_segment}
use Rattle.mxf_views.proofs.Common.{kept_unreadable_pack}
use Rattle.mxf_views.proofs.AppendLaws.{AreAppended}
use Rattle.mxf_views.proofs.kept.KeptLists.append_from.Given as goal

abbrev pub invariant-loop-note : goal.invariant-loop-note
invariant-loop-note l =
    let new = clear_from l.boundary l.catalogue in
    record {
      partitions : AreAppended kept_partition l.fn.self.partitions l.self.partitions l.note-iterator new;
      segments : AreAppended kept_segment l.fn.self.segments l.self.segments l.note-iterator new;
      rips : AreAppended kept_random_index_pack l.fn.self.random_index_packs l.self.random_index_packs l.note-iterator
          new;
      unreadable : AreAppended kept_unreadable_pack l.fn.self.unreadable_packs l.self.unreadable_packs l.note-iterator
          new;
      copies : l.self.copies ≡ l.fn.self.copies;
      reaches : l.self.reaches ≡ l.fn.self.reaches;
    }
