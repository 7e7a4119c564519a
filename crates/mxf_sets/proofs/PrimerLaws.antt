-- A value is one primer pack at most.
use Rattle.std.proofs.Common.{◌≡◌, ℕ, List, Ok, Err, Result, refl, sym, ◌∙◌}
use Rattle.mxf_sets.specs.declared.pack.PackFault.{PackFault}
use Rattle.mxf_sets.specs.declared.pack.PackFault.TheVariants as faults
use Rattle.mxf_sets.specs.Batch.{BatchParts}
use Rattle.mxf_sets.specs.Primer.{ReadsPrimer}
use Rattle.mxf_sets.proofs.BatchLaws.{same_batch}

pub one_primer_read : (bytes : List ℕ) (r s : Result BatchParts PackFault) → ReadsPrimer bytes r → ReadsPrimer bytes s
    → r ≡ s
one_primer_read bytes (Ok a) (Ok b) p q = cc (same_batch a b p.0.parts q.0.parts (sym p.0.whole ∙ q.0.whole))
one_primer_read bytes (Ok a) (Err faults.BadBatch) p q = absurd (q a p.0 p.1)
one_primer_read bytes (Ok a) (Err faults.NotThisKind) p q = absurd q
one_primer_read bytes (Ok a) (Err faults.Short) p q = absurd q
one_primer_read bytes (Ok a) (Err faults.WrongLength) p q = absurd q
one_primer_read bytes (Err faults.BadBatch) (Ok b) p q = absurd (p b q.0 q.1)
one_primer_read bytes (Err faults.BadBatch) (Err faults.BadBatch) p q = refl
one_primer_read bytes (Err faults.BadBatch) (Err faults.NotThisKind) p q = absurd q
one_primer_read bytes (Err faults.BadBatch) (Err faults.Short) p q = absurd q
one_primer_read bytes (Err faults.BadBatch) (Err faults.WrongLength) p q = absurd q
one_primer_read bytes (Err faults.NotThisKind) s p q = absurd p
one_primer_read bytes (Err faults.Short) s p q = absurd p
one_primer_read bytes (Err faults.WrongLength) s p q = absurd p
