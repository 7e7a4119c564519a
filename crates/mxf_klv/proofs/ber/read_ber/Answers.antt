use Rattle.std.proofs.Common.{arith}
use Rattle.mxf_klv.proofs.LengthLemmas.{wide_fits, wide_found}
use Rattle.mxf_klv.proofs.ber.read_ber.Goals as goal

pub invariant_of-result-in-129-to-136 : goal.invariant_of-result-in-129-to-136
invariant_of-result-in-129-to-136 c = rw (c.read_uint-value.ensures, c.from-count.ensures)
    (wide_fits c.args.bytes.now c.in-Some.first.now c.in-Some.rest.now c.in-Some.ensures.cases.0
    (λ i. omega (arith, c.type_inv.bytes i)) (omega arith) (omega arith))

pub returns-else-rest-count : goal.returns-else-rest-count
returns-else-rest-count c = grind (arith, wide_found)
