use Rattle.mxf_views.proofs.Common.{◌≡◌, ◌↔◌, ◌∙◌, ◌+◌, ◌≤◌, ◌<◌, ◌&&◌, ℕ, List, NoteParts, IsCatalogue, IsTrue, ap, arith, subst, sym}
use Rattle.mxf_catalogue.specs.Runs.{LiesIn}
use Rattle.mxf_doubts.specs.IndexFit.{AreClear, is_counted_wrong}
use Rattle.mxf_doubts.proofs.FitLaws.{all_filled, far_filled}
use Rattle.mxf_doubts.proofs.index_fit.IndexFit.is_filled_wrong.Goals as goal

pub returns-then-end-from : goal.returns-then-end-from
returns-then-end-from c =
    let notes = c.args.self.now in
    let start = c.args.start in
    let bytes = c.args.bytes in
    let same = c.catalogue.ensures ∙ c.views.ensures ∙ c.self.view_is in
    let is = subst (λ (l : List NoteParts). IsCatalogue l) same c.laws.ensures.catalogue in
    sym (ap (λ b. b && is_counted_wrong notes c.args.index_sid start (start + bytes))
    (far_filled notes start bytes is c.requires
    (omega (arith, c.from.ensures, c.from-2.ensures, c.from-3.ensures, c.if-end-from.true))))

pub returns-then-has_all : goal.returns-then-has_all
returns-then-has_all c =
    let notes = c.args.self.now in
    let sid = c.args.index_sid in
    let start = c.args.start in
    let bytes = c.args.bytes in
    let end : c.from.result + c.from-2.result ≡ start + bytes = λ i. c.from.ensures i + c.from-2.ensures i in
    let clear = subst (λ (l : List NoteParts). AreClear l c.self.inside.clear) c.self.view_is c.self.invariant.1 in
    let all : IsTrue c.has_all.result ↔ ((at : ℕ) → start ≤ at → at < start + bytes → LiesIn c.self.inside.clear at) =
    subst (λ e. IsTrue c.has_all.result ↔ ((at : ℕ) → start ≤ at → at < e → LiesIn c.self.inside.clear at)) end
    c.has_all.ensures in
    let filled = sym (all_filled notes c.self.inside.clear start bytes c.has_all.result clear all) ∙ c.if-has_all.true in
    c.is_counted_wrong.ensures ∙ ap (is_counted_wrong notes sid start) end
    ∙ sym (ap (λ b. b && is_counted_wrong notes sid start (start + bytes)) filled)

pub returns-else-has_all : goal.returns-else-has_all
returns-else-has_all c =
    let notes = c.args.self.now in
    let sid = c.args.index_sid in
    let start = c.args.start in
    let bytes = c.args.bytes in
    let end : c.from.result + c.from-2.result ≡ start + bytes = λ i. c.from.ensures i + c.from-2.ensures i in
    let clear = subst (λ (l : List NoteParts). AreClear l c.self.inside.clear) c.self.view_is c.self.invariant.1 in
    let all : IsTrue c.has_all.result ↔ ((at : ℕ) → start ≤ at → at < start + bytes → LiesIn c.self.inside.clear at) =
    subst (λ e. IsTrue c.has_all.result ↔ ((at : ℕ) → start ≤ at → at < e → LiesIn c.self.inside.clear at)) end
    c.has_all.ensures in
    let filled = sym (all_filled notes c.self.inside.clear start bytes c.has_all.result clear all) ∙ c.if-has_all.false in
    c.if-has_all.false ∙ sym (ap (λ b. b && is_counted_wrong notes sid start (start + bytes)) filled)
