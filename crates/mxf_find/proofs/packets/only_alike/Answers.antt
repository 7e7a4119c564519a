use Rattle.mxf_klv.proofs.Common.{◌∙◌, ℕ, List, ap, drop, nat_lt, rules, take, IsPartitionPoint-from_clause, NoteParts}
use Rattle.mxf_klv.proofs.Common.{note_cmp}
use Rattle.mxf_klv.proofs.Sides.{side_by}
use Rattle.mxf_find.specs.Packets.{packet_of, sole}
use Rattle.mxf_find.proofs.PacketRuns.{coarse_packets, parted, run}
use Rattle.mxf_find.proofs.packets.only_alike.Goals as goal

pub returns : goal.returns
returns c =
    let n = c.args.note.now in
    let xs = c.args.packets.now in
    let up_to = IsPartitionPoint-from_clause (λ x. nat_lt (side_by note_cmp packet_of (packet_of n) x) 2) _ _
    c.partition_point-to.ensures.partitioned (parted packet_of coarse_packets n xs c.requires 2)
    (λ a r q k. search rules) in
    let below = IsPartitionPoint-from_clause (λ x. nat_lt (side_by note_cmp packet_of (packet_of n) x) 1) _ _
    c.partition_point-from.ensures.partitioned (parted packet_of coarse_packets n xs c.requires 1)
    (λ a r q k. search rules) in
    c.only_between.ensures ∙ ap (λ (i : ℕ). sole (drop i (take c.partition_point-to.result xs))) c.min.ensures
    ∙ ap (λ (l : List NoteParts). sole l)
    (run packet_of n xs _ _ c.partition_point-to.ensures.bound below.0 below.1 up_to.0 up_to.1)
