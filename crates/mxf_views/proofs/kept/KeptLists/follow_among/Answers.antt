use Rattle.mxf_views.proofs.Common.{◌∙◌, Global, Vec, ap, arith, length, copies_of}
use Rattle.mxf_views.proofs.Common.{KeptParts, kept_partition, kept_random_index_pack, kept_segment}
use Rattle.mxf_views.proofs.Common.{kept_unreadable_pack, reaches_of, vec_capacity, with_found, partition_in}
use Rattle.mxf_views.proofs.Common.{random_index_pack_in, segment_in, unreadable_pack_in}
use Rattle.mxf_views.specs.declared.copy.CopyInfo.{CopyInfo}
use Rattle.mxf_views.proofs.CopyLaws.{copies_rise}
use Rattle.mxf_views.proofs.KeptLaws.{copies_after, kept_by, list_after, offset-kept_partition, offset-kept_segment}
use Rattle.mxf_views.proofs.KeptLaws.{offset-kept_rip, offset-kept_unreadable, outside_never_falls}
use Rattle.mxf_views.proofs.ReachLaws.{length-copies_followed, length-reaches_from}
use Rattle.mxf_views.proofs.kept.KeptLists.follow_among.Goals as goal

pub put-requires-clause-partitions : goal.put-requires-clause-partitions
put-requires-clause-partitions c =
    let k = c.requires.arrived in
    outside_never_falls _ _ _ k kept_partition (λ p. p.offset) offset-kept_partition _ _
    (ap (λ (p : KeptParts). p.partitions) k.kept) c.leave.ensures.partitions.items

pub put-requires-clause-segments : goal.put-requires-clause-segments
put-requires-clause-segments c =
    let k = c.requires.arrived in
    outside_never_falls _ _ _ k kept_segment (λ s. s.offset) offset-kept_segment _ _
    (ap (λ (p : KeptParts). p.segments) k.kept) c.leave.ensures.segments.items

pub put-requires-clause-random_index_packs : goal.put-requires-clause-random_index_packs
put-requires-clause-random_index_packs c =
    let k = c.requires.arrived in
    outside_never_falls _ _ _ k kept_random_index_pack (λ o. o) offset-kept_rip _ _
    (ap (λ (p : KeptParts). p.rips) k.kept) c.leave.ensures.random_index_packs.items

pub put-requires-clause-unreadable_packs : goal.put-requires-clause-unreadable_packs
put-requires-clause-unreadable_packs c =
    let k = c.requires.arrived in
    outside_never_falls _ _ _ k kept_unreadable_pack (λ o. o) offset-kept_unreadable _ _
    (ap (λ (p : KeptParts). p.unreadable) k.kept) c.leave.ensures.unreadable_packs.items

pub follow_copies-requires-clause-rising : goal.follow_copies-requires-clause-rising
follow_copies-requires-clause-rising c = grind (arith, copies_rise)

pub refill_reaches-requires-clause-room : goal.refill_reaches-requires-clause-room
refill_reaches-requires-clause-room c =
    grind (arith, length, length-copies_followed, length-reaches_from, copies_of, vec_capacity)

pub returns : goal.returns
returns c =
    let k = c.requires.arrived in
    let at = c.at.ensures in
    let left = c.leave.ensures in
    kept_by _ _ _ _ _ _ _
    (c.put.ensures.partitions ∙ ap (with_found (λ p. p.offset) (partition_in c.at.result)) left.partitions.items
    ∙ list_after _ _ _ k kept_partition (λ p. p.offset) offset-kept_partition _ _
    (ap (λ (p : KeptParts). p.partitions) k.kept) at.partition)
    (c.put.ensures.segments ∙ ap (with_found (λ s. s.offset) (segment_in c.at.result)) left.segments.items
    ∙ list_after _ _ _ k kept_segment (λ s. s.offset) offset-kept_segment _ _
    (ap (λ (p : KeptParts). p.segments) k.kept) at.segment) (c.put.ensures.random_index_packs
    ∙ ap (with_found (λ o. o) (random_index_pack_in c.at.result)) left.random_index_packs.items
    ∙ list_after _ _ _ k kept_random_index_pack (λ o. o) offset-kept_rip _ _
    (ap (λ (p : KeptParts). p.rips) k.kept) at.random_index_pack) (c.put.ensures.unreadable_packs
    ∙ ap (with_found (λ o. o) (unreadable_pack_in c.at.result)) left.unreadable_packs.items
    ∙ list_after _ _ _ k kept_unreadable_pack (λ o. o) offset-kept_unreadable _ _
    (ap (λ (p : KeptParts). p.unreadable) k.kept) at.unreadable_pack) (c.follow_copies.ensures
    ∙ copies_after _ _ _ k _ (ap (λ (v : Vec CopyInfo Global). v.items) (c.put.ensures.copies ∙ left.copies)
    ∙ ap (λ (p : KeptParts). p.copies) k.kept)) (c.refill_reaches.ensures ∙ ap reaches_of c.deref.ensures.value)
