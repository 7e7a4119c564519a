use Rattle.mxf_klv.proofs.Common.{sym, ◌∙◌, subst, slice_eq-Decides}
use Rattle.mxf_catalogue.specs.Covers.{IsCover}
use Rattle.mxf_catalogue.specs.Runs.{LiesIn}
use Rattle.mxf_catalogue.proofs.CoverLaws.{same_covers, run_eq-Decides}
use Rattle.mxf_catalogue.proofs.cover.CoverSemilattice.same.Goals as goal

pub returns-clause-list : goal.returns-clause-list
returns-clause-list c =
    let a = c.self.inside.runs.items in
    let b = c.other.inside.runs.items in
    let d = slice_eq-Decides run_eq-Decides a b c.eq.result c.eq.ensures in
    (λ h. sym c.self.view_is ∙ (d.0 h ∙ c.other.view_is), λ e. d.1 (c.self.view_is ∙ (e ∙ sym c.other.view_is)))

pub returns-clause-members : goal.returns-clause-members
returns-clause-members c =
    let a : IsCover c.args.self.now = subst IsCover c.self.view_is c.self.invariant in
    let b : IsCover c.args.other.now = subst IsCover c.other.view_is c.other.invariant in
    let one = same_covers c.args.self.now c.args.other.now a b in
    let list = returns-clause-list c in (
      λ h m. (subst (λ l. LiesIn l m) (list.0 h), subst (λ l. LiesIn l m) (sym (list.0 h))),
      λ same. list.1 (one same),
    )
