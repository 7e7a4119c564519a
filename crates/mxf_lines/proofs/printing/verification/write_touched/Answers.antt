use Rattle.mxf_verify.proofs.TouchedUnitLaws.{touched_is}
use Rattle.mxf_lines.proofs.printing.verification.write_touched.Goals as goal

-- the one answer is the one that is found by going through the places
pub returns-in-Some : goal.returns-in-Some
returns-in-Some c =
    let found = touched_is c.in-Some.units.now.places c.args.note.now c.units_of.result c.units_of.ensures in
    rw c.in-Some.is (rw found at c.write_span.ensures)
