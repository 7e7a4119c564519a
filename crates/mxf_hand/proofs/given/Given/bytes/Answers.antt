use Rattle.std.proofs.Common.{◌≡◌, ◌+◌, ◌≤◌, ◌++◌, ◌∙◌, take, arith, length-take}
use Rattle.mxf_hand.proofs.ReadBytes.{ReadSoFar, grown, so_far_more}
use Rattle.mxf_hand.proofs.given.Given.bytes.Goals as goal

pub reads-preserved : goal.reads-preserved
reads-preserved g c =
    let (told, from, below, so_far) = c.reads.invariant in
    let n = c.in_ok-count.count in
    let room = c.read_step_at.new.room in
    let within = c.in_ok-count.ensures.room in
    let size = length-take c.min-room.result c.reads.buffer in
    let end : c.reads.at + n ≤ c.args.to = omega (arith, within, size, c.read_step_at.auto.room) in
    let items : c.extend_from_slice.new.self.items ≡ c.reads.bytes.items ++ take n room =
    grown c.extend_from_slice.new.self.items c.reads.bytes.items room _ n c.in_ok-extend_from_slice.ensures.items within
    in
    let now : ReadSoFar (g.S.Sources.told c.args.sources.now) c.args.self.now.extents c.args.from c.args.to
    (c.reads.at + n) (c.reads.bytes.items ++ take n room) =
    so_far_more (g.S.Sources.told c.reads.sources) (g.S.Sources.told c.args.sources.now) c.args.self.now.extents
    c.args.from c.args.to c.reads.at n c.reads.bytes.items (take n room) told from end so_far
    c.in_ok-count.ensures.bytes in (
      c.in_ok-count.ensures.told ∙ told,
      omega (arith, from),
      omega (arith, end, from),
      λ given byte are of. items ∙ now given byte are of,
    )
