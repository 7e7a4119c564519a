use Rattle.mxf_klv.proofs.Common.{get_or, note_total, note_cmp-IsAntisymmetric, head_note}
use Rattle.mxf_catalogue.proofs.Heads.{set_over_head}
use Rattle.mxf_catalogue.proofs.Places.{search_says}
use Rattle.mxf_catalogue.proofs.catalogue.placing.put_over_head.Goals as goal

pub unreachable-requires : goal.unreachable-requires
unreachable-requires c =
    let s = search_says note_total note_cmp-IsAntisymmetric c.to_head.result c.deref.result.now c.binary_search-2.result
    (rw c.deref.ensures.value c.requires.content) c.binary_search-2.ensures.bound c.binary_search-2.ensures.position in
    let p = rw c.in-Err.is at s.1 in
    p.absent (rw (c.deref.ensures.value, c.to_head.ensures) c.requires.head)

pub returns-clause-items : goal.returns-clause-items
returns-clause-items c =
    let xs = c.args.notes.now.items in
    let n = c.args.note in
    let bound = rw (c.in-Ok.is, c.deref.ensures.value) at c.binary_search-2.ensures.bound in
    let holds = rw (c.in-Ok.is, c.deref.ensures.value, c.to_head.ensures) at c.binary_search-2.ensures.position in
    set_over_head xs c.in-Ok.at n c.requires.content c.requires.reduced c.requires.new bound
    (note_cmp-IsAntisymmetric (get_or xs c.in-Ok.at n) (head_note n) (holds n))
