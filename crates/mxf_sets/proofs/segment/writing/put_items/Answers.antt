use Rattle.std.proofs.lemmas.Result.{err_from_is_err_and}
use Rattle.mxf_sets.proofs.Writing.{Stops-item}
use Rattle.mxf_sets.proofs.segment.writing.put_items.Goals as goal

pub returns-in_err-put_item : goal.returns-in_err-put_item
returns-in_err-put_item g c =
    let p = err_from_is_err_and c.from_residual.result c.from_residual.ensures.1 in
    let (written, counted) = c.items.invariant in
    rw (p.1, p.2) (Stops-item _ _ _ _ _ _ _ _ _ c.item-item.result c.items-test.true c.item-item.is written counted
    c.in_err-put_item.ensures)
