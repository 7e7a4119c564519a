use Rattle.std.proofs.Common.{◌*◌, ◌/◌, length, arith, refl}
use Rattle.std.proofs.lemmas.List.{take_rest}
use Rattle.mxf_digests.proofs.PaddingLemmas.{last_block, own_block}
use Rattle.mxf_digests.proofs.padding.block_at.Goals as goal

pub returns-then-index-whole : goal.returns-then-index-whole
returns-then-index-whole c low =
    own_block c.args.value.now _ c.args.index _ c.if-index-whole.true (omega arith) c.copy_from_slice.ensures.after

pub returns-then-index-whole-lt2 : goal.returns-then-index-whole-lt2
returns-then-index-whole-lt2 c low =
    let m = c.args.value.now in
    let w = length m / 64 in
    last_block m c.padded-tail.result _ _ c.args.index w _ refl c.if-index-whole.false low (omega arith)
    (take_rest m (64 * w)) c.padded-tail.ensures
    c.copy_from_slice-then-index-whole-lt2.ensures.after
