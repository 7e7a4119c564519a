use Rattle.mxf_views.proofs.Common.{subst, sym, IsCatalogue}
use Rattle.mxf_verify.proofs.OtherLaws.{others_are}
use Rattle.mxf_verify.proofs.others.Others.of.Goals as goal

pub bounded-requires : goal.bounded-requires
bounded-requires c = subst IsCatalogue (sym c.in_ok-other_notes.ensures)
    (others_are c.args.saved.now c.args.reference.now c.laws.ensures.catalogue)
