use Rattle.mxf_views.proofs.Common.{◌∙◌, List, NoteParts, ap, list_any}
use Rattle.mxf_doubts.specs.IndexFit.{has_own}
use Rattle.mxf_doubts.proofs.FitLaws.{is_own, own_permuted}
use Rattle.mxf_doubts.proofs.index_fit.IndexFit.has_own.Goals as goal

pub returns : goal.returns
returns c =
    let sid = c.args.index_sid in
    let start = c.args.start in
    let end = c.args.end in
    c.has_own_in.ensures ∙ ap (list_any (is_own sid start end)) c.deref.ensures.value
    ∙ own_permuted c.self.inside.holdings sid start end c.self.inside.pairs.items c.self.invariant.3
    ∙ ap (λ (l : List NoteParts). has_own l sid start end) c.self.view_is
