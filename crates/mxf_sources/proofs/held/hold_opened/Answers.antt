use Rattle.std.proofs.Common.{◌≡◌, ◌∙◌, List, false, subst, sym}
use Rattle.mxf_klv.specs.Parts.{NoteParts}
use Rattle.mxf_views.specs.Headline.{IsTheRun}
use Rattle.mxf_read.specs.Gathering.{AllTell, HandedBy, reports_of}
use Rattle.mxf_read.specs.SkimGathering.{IsTheSkim, SkimHandedBy}
use Rattle.mxf_hand.proofs.ExcerptLaws.{if_ok}
use Rattle.mxf_saving.specs.declared.source.Source.{Source}
use Rattle.mxf_sources.specs.Ranges.{has_range}
use Rattle.mxf_sources.proofs.held.hold_opened.Goals as goal

pub returns-in-Ok-clause-run : goal.returns-in-Ok-clause-run
returns-in-Ok-clause-run g c = λ full pieces tells.
    let left = g.F.Read.remaining in
    let apart = subst (λ (l : List Source). has_range l ≡ false) (sym c.into_parts-parts.ensures.sources) pieces in
    let run = subst (λ l. AllTell left l → IsTheRun (HandedBy left l) c.in-Ok.gathered.views)
    c.into_parts-parts.ensures.parts (c.in-Ok.ensures.run full) tells in
    if_ok c.complete.result _ _ (c.complete.ensures.pieces apart)
    (λ held is. subst (λ (notes : List NoteParts). IsTheRun (HandedBy left c.args.opened.parts.items) notes)
    (sym is.held) run)

pub returns-in-Ok-clause-skim : goal.returns-in-Ok-clause-skim
returns-in-Ok-clause-skim g c = λ skim pieces tells.
    let left = g.F.Read.remaining in
    let apart = subst (λ (l : List Source). has_range l ≡ false) (sym c.into_parts-parts.ensures.sources) pieces in
    let run = subst (λ l. AllTell left l → IsTheSkim (SkimHandedBy left l) c.in-Ok.gathered.views)
    c.into_parts-parts.ensures.parts (c.in-Ok.ensures.skim skim) tells in
    if_ok c.complete.result _ _ (c.complete.ensures.pieces apart)
    (λ held is. subst (λ (notes : List NoteParts). IsTheSkim (SkimHandedBy left c.args.opened.parts.items) notes)
    (sym is.held) run)

pub returns-in-Ok-clause-reports : goal.returns-in-Ok-clause-reports
returns-in-Ok-clause-reports g c = λ tells.
    let left = g.F.Read.remaining in
    let told = subst (λ l. AllTell left l → c.in-Ok.gathered.reports ≡ reports_of left l)
    c.into_parts-parts.ensures.parts c.in-Ok.ensures.reports tells in
    if_ok c.complete.result _ _ c.complete.ensures.reports (λ held is. is ∙ told)

pub returns-in-Ok-clause-hand : goal.returns-in-Ok-clause-hand
returns-in-Ok-clause-hand g c = λ pieces.
    let apart = subst (λ (l : List Source). has_range l ≡ false) (sym c.into_parts-parts.ensures.sources) pieces in
    if_ok c.complete.result _ _ (c.complete.ensures.pieces apart) (λ held is. is.hand)
