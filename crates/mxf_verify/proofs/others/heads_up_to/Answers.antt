use Rattle.mxf_views.proofs.Common.{rules, is_le, IsPartitionPoint-from_clause, NoteParts, head_note, note_cmp}
use denote.Bor.{Bor}
use Rattle.mxf_verify.proofs.OtherLaws.{parted-count, parted_up_to}
use Rattle.mxf_verify.proofs.others.heads_up_to.Goals as goal

pub returns : goal.returns
returns c =
    let n = c.args.note.now in
    let point = IsPartitionPoint-from_clause (λ (r : Bor NoteParts). is_le (note_cmp (head_note r.now) n)) _ _
    c.partition_point.ensures.partitioned (parted_up_to n _ c.requires) (λ a r q k. search rules) in
    parted-count (λ m. is_le (note_cmp
    (head_note m) n)) c.args.notes.now _ c.partition_point.ensures.bound point.0 point.1
