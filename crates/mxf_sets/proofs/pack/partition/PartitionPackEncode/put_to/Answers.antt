use Rattle.mxf_klv.proofs.Common.{◌++◌, refl, err_from_is_err_and}
use Rattle.mxf_sets.specs.Batch.{batch_bytes}
use Rattle.mxf_sets.specs.PartitionPack.{numbers_bytes}
use Rattle.mxf_sets.proofs.Writing.{Stops-first, Stops-second, WritesPart-second}
use Rattle.mxf_sets.proofs.pack.partition.PartitionPackEncode.put_to.Goals as goal

pub returns-in_err-put : goal.returns-in_err-put
returns-in_err-put g c =
    let p = err_from_is_err_and c.from_residual.result c.from_residual.ensures.1 in
    let numbers = numbers_bytes c.self.inside.numbers in
    let rest = c.self.inside.pattern ++ batch_bytes c.self.inside.containers in
    rw (p.1, p.2, ← c.self.view_is)
    (Stops-first _ _ _ _ _ _ numbers rest refl (rw c.to_bytes.ensures.bytes at c.in_err-put.ensures.written))

pub returns-in_err-put-2 : goal.returns-in_err-put-2
returns-in_err-put-2 g c =
    let p = err_from_is_err_and c.from_residual-in_err-put-2.result c.from_residual-in_err-put-2.ensures.1 in
    let numbers = numbers_bytes c.self.inside.numbers in
    let labels = batch_bytes c.self.inside.containers in
    rw (p.1, p.2, ← c.self.view_is) (Stops-second _ _ _ _ _ _ _ _ numbers c.self.inside.pattern labels refl
    (rw c.to_bytes.ensures.bytes at c.in_ok-put.ensures.written) c.in_err-put-2.ensures.written)

pub returns : goal.returns
returns g c =
    let numbers = numbers_bytes c.self.inside.numbers in
    let labels = batch_bytes c.self.inside.containers in
    rw (← c.self.view_is) (WritesPart-second _ _ _ _ _ _ _ _ numbers (c.self.inside.pattern ++ labels) refl
    (rw c.to_bytes.ensures.bytes at c.in_ok-put.ensures.written)
    (WritesPart-second _ _ _ _ _ _ _ _ c.self.inside.pattern labels refl
    c.in_ok-put-2.ensures.written c.put_to.ensures))
