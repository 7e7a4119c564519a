use Rattle.mxf_klv.proofs.Common.{sym, note_total, note_cmp-IsAntisymmetric}
use Rattle.mxf_catalogue.proofs.Places.{place_at_end, search_says}
use Rattle.mxf_klv.proofs.Tests.{less_from_test}
use Rattle.mxf_catalogue.proofs.catalogue.placing.place.Goals as goal

pub returns-in-Some-clause-absent : goal.returns-in-Some-clause-absent
returns-in-Some-clause-absent c =
    place_at_end note_total c.args.note.now c.in-Some.last.now c.args.notes.now (sym c.in-Some.ensures.value) c.requires
    (less_from_test _ (sym c.if-lt.ensures))

pub returns-in_default : goal.returns-in_default
returns-in_default c =
    let s = search_says note_total note_cmp-IsAntisymmetric c.args.note.now c.args.notes.now c.binary_search.result
    c.requires c.binary_search.ensures.bound c.binary_search.ensures.position in
    record { found = s.0; absent = s.1 }
