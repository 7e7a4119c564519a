use Rattle.mxf_views.proofs.Common.{◌≡◌, ◌∙◌, ◌+◌, ◌&&◌, ◌||◌, List, NoteParts, ap, clear_notes, filter, map, subst, sym}
use Rattle.mxf_doubts.specs.Header.{span_of}
use Rattle.mxf_doubts.specs.IndexFit.{are_filled, is_counted_wrong, is_foreign}
use Rattle.mxf_doubts.proofs.FitLaws.{foreign_within}
use Rattle.mxf_doubts.proofs.index_fit.IndexFit.is_miscounted.Goals as goal

pub returns-then-has_one_from : goal.returns-then-has_one_from
returns-then-has_one_from c =
    let notes = c.args.self.now in
    let start = c.args.start in
    let bytes = c.args.bytes in
    let all = subst (λ (l : List NoteParts). c.self.inside.foreign ≡ map span_of (filter (is_foreign l) (clear_notes l)))
    c.self.view_is c.self.invariant.2 in
    let has = c.has_one_from.ensures ∙ foreign_within notes c.self.inside.foreign start bytes all in
    c.if-has_one_from.true
    ∙ sym (ap (λ b. b || (are_filled notes start bytes && is_counted_wrong notes c.args.index_sid start (start + bytes)))
    (sym has ∙ c.if-has_one_from.true))

pub returns-else-has_one_from : goal.returns-else-has_one_from
returns-else-has_one_from c =
    let notes = c.args.self.now in
    let start = c.args.start in
    let bytes = c.args.bytes in
    let all = subst (λ (l : List NoteParts). c.self.inside.foreign ≡ map span_of (filter (is_foreign l) (clear_notes l)))
    c.self.view_is c.self.invariant.2 in
    let has = c.has_one_from.ensures ∙ foreign_within notes c.self.inside.foreign start bytes all in
    c.is_filled_wrong.ensures
    ∙ sym (ap (λ b. b || (are_filled notes start bytes && is_counted_wrong notes c.args.index_sid start (start + bytes)))
    (sym has ∙ c.if-has_one_from.false))
