use Rattle.mxf_views.proofs.Common.{◌∙◌, ap, arith, length, take, vec_capacity, copies_of}
use Rattle.mxf_views.proofs.Common.{KeptParts, kept_partition, kept_random_index_pack, kept_segment}
use Rattle.mxf_views.proofs.Common.{kept_unreadable_pack, reaches_of, states_metadata}
use Rattle.mxf_views.proofs.AboveKept.{count_at, kept_above}
use Rattle.mxf_views.proofs.KeptLaws.{kept_by}
use Rattle.mxf_views.proofs.KeptRoom.{length-kept_copies}
use Rattle.mxf_views.proofs.ReachLaws.{length-reaches_from, take_reaches}
use Rattle.mxf_views.proofs.kept.KeptLists.follow_above.Goals as goal

pub refill_reaches-requires-clause-room : goal.refill_reaches-requires-clause-room
refill_reaches-requires-clause-room c =
    grind (arith, copies_of, length, length-kept_copies, length-reaches_from, vec_capacity, count_at, states_metadata)

pub refill_reaches-requires-clause-reaches : goal.refill_reaches-requires-clause-reaches
refill_reaches-requires-clause-reaches c = grind (arith, length, length-reaches_from, copies_of)

pub refill_reaches-requires-clause-settled : goal.refill_reaches-requires-clause-settled
refill_reaches-requires-clause-settled c = grind (arith, reaches_of, take, take_reaches, copies_of)

pub returns : goal.returns
returns c =
    let k = c.requires.kept in
    let b = c.args.boundary in
    let notes = c.args.catalogue.now in
    let new = c.append_from.ensures in
    kept_by _ _ _ _ _ _ _
    (new.partitions ∙ kept_above b notes k.0 k.1 kept_partition _ (ap (λ (p : KeptParts). p.partitions) k.2))
    (new.segments ∙ kept_above b notes k.0 k.1 kept_segment _ (ap (λ (p : KeptParts). p.segments) k.2))
    (new.random_index_packs ∙ kept_above b notes k.0 k.1 kept_random_index_pack _ (ap (λ (p : KeptParts). p.rips) k.2))
    (new.unreadable_packs
    ∙ kept_above b notes k.0 k.1 kept_unreadable_pack _ (ap (λ (p : KeptParts). p.unreadable) k.2))
    (c.follow_copies_above.ensures.copies ∙ ap copies_of c.of-sums.ensures.notes)
    (c.refill_reaches.ensures ∙ ap reaches_of c.deref-4.ensures.value)
