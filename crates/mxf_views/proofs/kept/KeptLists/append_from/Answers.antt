use Rattle.mxf_views.proofs.Common.{◌∙◌, ap, refl, kept_partition, kept_random_index_pack, kept_segment}
use Rattle.mxf_views.proofs.Common.{kept_unreadable_pack}
use Rattle.mxf_views.specs.KeptNotes.{partition_in, random_index_pack_in, segment_in, unreadable_pack_in}
use Rattle.mxf_views.proofs.AppendLaws.{appended_all, appended_next, appended_none, next_fits}
use Rattle.mxf_views.proofs.KeptNoteLaws.{note_kept}
use Rattle.mxf_views.proofs.kept.KeptLists.append_from.Goals as goal

pub loop-note-init : goal.loop-note-init
loop-note-init c =
    let self = c.args.self.now in
    let same = c.into_iter-note-iterator.ensures.into_iter_gives ∙ c.clear_within-note-items.ensures.notes in
    record {
      partitions = appended_none kept_partition self.partitions _ _ same c.requires.partitions;
      segments = appended_none kept_segment self.segments _ _ same c.requires.segments;
      rips = appended_none kept_random_index_pack self.random_index_packs _ _ same c.requires.random_index_packs;
      unreadable = appended_none kept_unreadable_pack self.unreadable_packs _ _ same c.requires.unreadable_packs;
      copies = refl;
      reaches = refl;
    }

pub append-requires : goal.append-requires
append-requires c =
    let n = c.in-Some.note.now in
    let e = c.in-Some.ensures.steps in
    let inv = c.loop-note.invariant in
    let of = c.of.ensures in
    let is = note_kept n in
    record {
      partitions = next_fits kept_partition _ _ _ _ _ n _ inv.partitions e (ap partition_in of ∙ is.partition);
      segments = next_fits kept_segment _ _ _ _ _ n _ inv.segments e (ap segment_in of ∙ is.segment);
      random_index_packs = next_fits kept_random_index_pack _ _ _ _ _ n _ inv.rips e
          (ap random_index_pack_in of ∙ is.rip);
      unreadable_packs = next_fits kept_unreadable_pack _ _ _ _ _ n _ inv.unreadable e
          (ap unreadable_pack_in of ∙ is.unreadable);
    }

pub loop-note-preserved : goal.loop-note-preserved
loop-note-preserved c =
    let n = c.in-Some.note.now in
    let e = c.in-Some.ensures.steps in
    let inv = c.loop-note.invariant in
    let of = c.of.ensures in
    let is = note_kept n in
    let put = c.append.ensures in
    record {
      partitions = appended_next kept_partition _ _ _ _ _ _ n _ inv.partitions e (ap partition_in of ∙ is.partition)
          put.partitions;
      segments = appended_next kept_segment _ _ _ _ _ _ n _ inv.segments e (ap segment_in of ∙ is.segment) put.segments;
      rips = appended_next kept_random_index_pack _ _ _ _ _ _ n _ inv.rips e
          (ap random_index_pack_in of ∙ is.rip) put.random_index_packs;
      unreadable = appended_next kept_unreadable_pack _ _ _ _ _ _ n _ inv.unreadable e
          (ap unreadable_pack_in of ∙ is.unreadable) put.unreadable_packs;
      copies = put.copies ∙ inv.copies;
      reaches = put.reaches ∙ inv.reaches;
    }

pub returns : goal.returns
returns c =
    let inv = c.loop-note.invariant in
    let none = c.in-None.ensures.steps.0 in
    record {
      partitions = appended_all kept_partition _ _ _ _ inv.partitions none;
      segments = appended_all kept_segment _ _ _ _ inv.segments none;
      random_index_packs = appended_all kept_random_index_pack _ _ _ _ inv.rips none;
      unreadable_packs = appended_all kept_unreadable_pack _ _ _ _ inv.unreadable none;
      copies = inv.copies;
      reaches = inv.reaches;
    }
