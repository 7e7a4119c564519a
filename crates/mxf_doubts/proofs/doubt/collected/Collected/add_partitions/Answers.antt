use Rattle.std.proofs.Common.{◌∙◌, ◌++◌, List, ap, filter, map}
use Rattle.mxf_klv.specs.Parts.{NoteParts}
use Rattle.mxf_views.specs.Partitions.{PartitionParts, in_numbers, partitions_of}
use Rattle.mxf_doubts.specs.declared.doubt.Code.TheVariants.{G03}
use Rattle.mxf_doubts.specs.Codes.{doubt}
use Rattle.mxf_doubts.specs.IndexFit.{is_index_misfit}
use Rattle.mxf_doubts.proofs.FitLaws.{by_numbers}
use Rattle.mxf_doubts.proofs.doubt.collected.Collected.add_partitions.Goals as goal

pub loop-partition-init : goal.loop-partition-init
loop-partition-init c =
    let asked = c.args.asked.now in
    let same = c.partitions_in_numbers-partition-items.ensures.partitions
    ∙ ap (λ (l : List NoteParts). map in_numbers (partitions_of l)) c.views-2.ensures in
    ap (λ l. c.args.self.now ++ map (doubt G03) l)
    (ap (λ (l : List PartitionParts). map (λ p. p.offset) (filter (is_index_misfit asked) l)) same
    ∙ by_numbers asked (partitions_of asked))
