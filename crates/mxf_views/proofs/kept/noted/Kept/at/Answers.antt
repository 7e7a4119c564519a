use Rattle.mxf_views.proofs.Common.{◌∙◌, ap, kept_partition, kept_random_index_pack, kept_segment, kept_unreadable_pack}
use Rattle.mxf_views.proofs.Common.{option_and_then}
use Rattle.mxf_views.specs.KeptNotes.{partition_in, random_index_pack_in, segment_in, unreadable_pack_in}
use Rattle.mxf_views.proofs.KeptNoteLaws.{note_kept}
use Rattle.mxf_views.proofs.kept.noted.Kept.at.Goals as goal

pub returns : goal.returns
returns c =
    let of = c.of.ensures in
    let is = note_kept c.in_ok-clear_at.field-0.now in
    let at = c.in_ok-clear_at.ensures.first in
    record {
      partition = ap partition_in of ∙ is.partition ∙ ap (option_and_then kept_partition) at;
      segment = ap segment_in of ∙ is.segment ∙ ap (option_and_then kept_segment) at;
      random_index_pack = ap random_index_pack_in of ∙ is.rip ∙ ap (option_and_then kept_random_index_pack) at;
      unreadable_pack = ap unreadable_pack_in of ∙ is.unreadable ∙ ap (option_and_then kept_unreadable_pack) at;
    }
