use Rattle.mxf_views.proofs.Common.{◌∙◌, ◌==◌, List, NoteParts, ap, clear_notes, find, option_copied, subst, sym}
use Rattle.mxf_catalogue.specs.Disputes.{AreApart}
use Rattle.mxf_doubts.specs.IndexFit.{AreClear}
use Rattle.mxf_doubts.proofs.FitLaws.{goes_at, goes_by}
use Rattle.mxf_doubts.proofs.index_fit.IndexFit.goes_on_at.Goals as goal

pub returns-in-None : goal.returns-in-None
returns-in-None c =
    let notes = c.args.self.now in
    let same = c.catalogue-catalogue.ensures ∙ c.views.ensures ∙ c.self.view_is in
    let apart = subst (λ (l : List NoteParts). AreApart 0 (clear_notes l)) same c.laws.ensures.apart in
    let clear = subst (λ (l : List NoteParts). AreClear l c.self.inside.clear) c.self.view_is c.self.invariant.1 in
    let none = sym (ap (λ (l : List NoteParts). find (λ n. n.offset == c.args.end) (clear_notes l)) same)
    ∙ sym c.clear_at.ensures.first ∙ ap option_copied c.in-None.is in
    goes_by notes c.self.inside.clear c.args.end c.has.result apart none clear c.has.ensures

pub returns-in-Some : goal.returns-in-Some
returns-in-Some c =
    let notes = c.args.self.now in
    let same = c.catalogue-catalogue.ensures ∙ c.views.ensures ∙ c.self.view_is in
    let apart = subst (λ (l : List NoteParts). AreApart 0 (clear_notes l)) same c.laws.ensures.apart in
    let found = sym (ap (λ (l : List NoteParts). find (λ n. n.offset == c.args.end) (clear_notes l)) same)
    ∙ sym c.clear_at.ensures.first ∙ ap option_copied c.in-Some.is in
    c.is_segment.ensures ∙ goes_at notes c.args.end c.in-Some.note.now apart found
