use Rattle.mxf_read.proofs.Reports.{filled_end, filled_fault, filled_memory}
use Rattle.mxf_read.proofs.absorbing.fill.Goals as goal

pub returns-in-Ok-clause-taken : goal.returns-in-Ok-clause-taken
returns-in-Ok-clause-taken g c = λ o start.
    filled_end o c.args.limit _ _ c.args.piece.now c.read_all.new.piece c.finish.new.piece.notes c.finish.result start
    c.in-Ok.ensures.bytes (c.finish.ensures.read o)

pub returns-in-Err-OutOfMemory-clause-taken : goal.returns-in-Err-OutOfMemory-clause-taken
returns-in-Err-OutOfMemory-clause-taken g c = λ o start.
    filled_memory o c.args.limit _ _ c.args.piece.now c.read_all.new.piece _ _ start
    (rw c.in-Err-OutOfMemory.field-0-is at c.in-Err-OutOfMemory.ensures.bytes) c.noted.ensures c.at.ensures

pub returns-in-Err-ReadFault-clause-taken : goal.returns-in-Err-ReadFault-clause-taken
returns-in-Err-ReadFault-clause-taken g c = λ o start.
    filled_fault o c.args.limit _ _ c.args.piece.now c.read_all.new.piece _ _ start
    (rw c.in-Err-ReadFault.field-0-is at c.in-Err-ReadFault.ensures.bytes) c.noted-in-Err-ReadFault.ensures
    c.at-in-Err-ReadFault.ensures
