use Rattle.mxf_views.proofs.Common.{note_total, note_cmp-IsAntisymmetric, search_says}
use Rattle.mxf_verify.proofs.note_set.place.Goals as goal

pub returns : goal.returns
returns c =
    let s = search_says note_total note_cmp-IsAntisymmetric c.args.note.now c.args.members.now c.binary_search.result
    c.requires c.binary_search.ensures.bound c.binary_search.ensures.position in
    record { found = s.0; absent = s.1 }
