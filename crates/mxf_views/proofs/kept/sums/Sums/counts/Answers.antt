use Rattle.mxf_views.proofs.Common.{List, subst, sym, clear_from, AreInRange, SumsParts}
use Rattle.mxf_views.specs.declared.kept.sums.Mark.{Mark}
use Rattle.mxf_views.specs.Sums.{AreMarks}
use Rattle.mxf_views.proofs.kept.sums.Sums.counts.Goals as goal

pub counts_by-requires-clause-marks : goal.counts_by-requires-clause-marks
counts_by-requires-clause-marks c =
    let s = c.self.inside in
    let all = clear_from s.boundary s.catalogue.now in
    subst (λ (p : SumsParts). AreInRange (clear_from p.boundary p.notes) c.args.start c.args.bytes c.in-Some.first
    c.in-Some.last) c.self.view_is
    (c.in-Some.ensures all (subst (λ (l : List Mark). AreMarks all l) (sym c.deref.ensures.value) c.self.invariant))
