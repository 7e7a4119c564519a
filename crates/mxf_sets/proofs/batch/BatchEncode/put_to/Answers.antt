use Rattle.mxf_klv.proofs.Common.{◌++◌, refl, err_from_is_err_and}
use Rattle.byteorder.specs.Endian.{big_bytes}
use Rattle.mxf_sets.proofs.Writing.{Stops-first, Stops-second, WritesPart-second}
use Rattle.mxf_sets.proofs.batch.BatchEncode.put_to.Goals as goal

pub returns-in_err-put : goal.returns-in_err-put
returns-in_err-put g c =
    let p = err_from_is_err_and c.from_residual.result c.from_residual.ensures.1 in
    let count = big_bytes 4 c.self.inside.count in
    let rest = big_bytes 4 c.self.inside.size ++ c.self.inside.items.now in
    rw (p.1, p.2, ← c.self.view_is)
    (Stops-first _ _ _ _ _ _ count rest refl (rw c.to_be_bytes.ensures at c.in_err-put.ensures.written))

pub returns-in_err-put-2 : goal.returns-in_err-put-2
returns-in_err-put-2 g c =
    let p = err_from_is_err_and c.from_residual-in_err-put-2.result c.from_residual-in_err-put-2.ensures.1 in
    let count = big_bytes 4 c.self.inside.count in
    let size = big_bytes 4 c.self.inside.size in
    rw (p.1, p.2, ← c.self.view_is) (Stops-second _ _ _ _ _ _ _ _ count size c.self.inside.items.now refl
    (rw c.to_be_bytes.ensures at c.in_ok-put.ensures.written)
    (rw c.to_be_bytes-2.ensures at c.in_err-put-2.ensures.written))

pub returns : goal.returns
returns g c =
    let count = big_bytes 4 c.self.inside.count in
    let size = big_bytes 4 c.self.inside.size in
    let items = c.self.inside.items.now in
    rw (← c.self.view_is) (WritesPart-second _ _ _ _ _ _ _ _ count (size ++ items) refl
    (rw c.to_be_bytes.ensures at c.in_ok-put.ensures.written) (WritesPart-second _ _ _ _ _ _ _ _ size items refl
    (rw c.to_be_bytes-2.ensures at c.in_ok-put-2.ensures.written) c.put-3.ensures.written))
