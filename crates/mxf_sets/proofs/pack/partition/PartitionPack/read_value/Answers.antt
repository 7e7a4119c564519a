use Rattle.mxf_klv.proofs.Common.{◌∙◌, refl, arith, ap, length, length-take}
use Rattle.mxf_sets.proofs.PackLaws.{bad_batch, pack_read}
use Rattle.mxf_sets.proofs.pack.partition.PartitionPack.read_value.Goals as goal

pub returns : goal.returns
returns c =
    let k = c.in-Some.ensures.cases in
    let m = c.in-Some-split_first_chunk.ensures.cases in (
      refl,
      pack_read c.args.value.now c.in-Some.numbers.now c.in-Some.rest.now c.in-Some-split_first_chunk.pattern.now
          c.in-Some-split_first_chunk.rest.now c.args.part c.args.status c.read-2.result
          c.in-Ok.containers k.0 k.1 m.0 m.1 (ap length m.0
          ∙ omega (arith, length-take 16 c.in-Some.rest.now, m.2)) c.read-2.ensures.numbers c.read-2.ensures.bytes
          c.in-Ok.ensures.0 c.in-Ok.ensures.1,
    )

pub returns-in_default-read : goal.returns-in_default-read
returns-in_default-read c = grind (arith, bad_batch)
