use Rattle.mxf_views.proofs.Common.{rules, ◌+◌, IsPartitionPoint-from_clause}
use Rattle.mxf_partial.specs.InStreams.{is_below}
use Rattle.mxf_partial.proofs.InStreamLaws.{parted, parted_at}
use Rattle.mxf_partial.proofs.in_streams.below.Goals as goal

pub returns-clause-parted : goal.returns-clause-parted
returns-clause-parted g c = λ r.
    let stream = g.T.InStream.stream in
    let offset = g.T.InStream.offset in
    let tie = g.T.InStream.tie in
    let s = c.args.stream in
    let t = c.args.bound.from + c.args.bound.more in
    let point = IsPartitionPoint-from_clause (λ x. is_below (stream x) (offset x) s t) _ _
    c.partition_point.ensures.partitioned (parted stream offset tie s t c.args.items.now r) (λ a r q k. search rules) in
    parted_at stream offset tie s t c.args.items.now c.partition_point.result point
