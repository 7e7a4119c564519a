use Rattle.mxf_klv.proofs.Common.{◌==◌, ◌∙◌, ℕ, List, ap, count_by, subst, sym, NoteParts}
use Rattle.mxf_catalogue.specs.Content.{IsContent}
use Rattle.mxf_readings.specs.Readings.{content_of, is_alone}
use Rattle.mxf_readings.proofs.AloneLaws.{alone-count}
use Rattle.mxf_readings.proofs.readings.Readings.counted.Goals as goal

pub returns-clause-alone : goal.returns-clause-alone
returns-clause-alone c =
    let s = c.self.inside in
    let number = c.args.number in
    let rise = subst (λ (ns : List NoteParts). IsContent ns)
    (c.requires ∙ ap (content_of number) (sym c.self.view_is)) c.laws.ensures.catalogue.content in
    c.count_with_key.ensures ∙ ap (λ (ks : List ℕ). count_by (λ k. k == number) ks) c.deref.ensures.value
    ∙ alone-count number s.contents.now s.holdings.items s.all s.alone.items c.self.invariant.1 c.self.invariant.0 rise
    c.self.invariant.3 ∙ (λ i. count_by (is_alone (c.self.view_is i)) (content_of number (c.self.view_is i)))
    ∙ ap (count_by (is_alone c.args.self.now)) (sym c.requires)
