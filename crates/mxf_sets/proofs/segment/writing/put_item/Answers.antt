use Rattle.mxf_klv.proofs.Common.{◌++◌, List, ℕ, ap, sym, err_from_is_err_and}
use Rattle.mxf_sets.proofs.Writing.{Stops-first, WritesPart-second}
use Rattle.mxf_sets.proofs.segment.writing.put_item.Goals as goal

pub returns-in_err-put : goal.returns-in_err-put
returns-in_err-put g c =
    let p = err_from_is_err_and c.from_residual.result c.from_residual.ensures.1 in
    let value = c.item.inside.value.now in
    let parts = ap (λ (h : List ℕ). h ++ value) (sym c.item_head.ensures) in
    rw (p.1, p.2, ← c.item.view_is)
    (Stops-first _ _ _ _ _ _ c.item_head.result value parts c.in_err-put.ensures.written)

pub returns : goal.returns
returns g c =
    let value = c.item.inside.value.now in
    let parts = ap (λ (h : List ℕ). h ++ value) (sym c.item_head.ensures) in
    rw (← c.item.view_is) (WritesPart-second _ _ _ _ _ _ _ _ c.item_head.result value parts
    c.in_ok-put.ensures.written c.put-2.ensures.written)
