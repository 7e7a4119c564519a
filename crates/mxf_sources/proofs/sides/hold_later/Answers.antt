use Rattle.std.proofs.Common.{◌≡◌, ◌∙◌, List, false, subst, sym}
use Rattle.mxf_read.specs.Gathering.{AllTell, reports_of}
use Rattle.mxf_hand.proofs.ExcerptLaws.{if_ok}
use Rattle.mxf_hints.specs.Contents.{AreRuns}
use Rattle.mxf_saving.specs.declared.source.Source.{Source}
use Rattle.mxf_sources.specs.Ranges.{has_range, settled_reports}
use Rattle.mxf_sources.proofs.sides.hold_later.Goals as goal

pub returns-in-Ok-clause-views : goal.returns-in-Ok-clause-views
returns-in-Ok-clause-views g c = λ pieces tells.
    let left = g.F.Read.remaining in
    let apart = subst (λ (l : List Source). has_range l ≡ false) (sym c.into_parts-parts.ensures.sources) pieces in
    let held = c.in-Ok.contents.contents.items in
    let runs = subst (λ l. AllTell left l → AreRuns left l held) c.into_parts-parts.ensures.parts
    c.in-Ok.ensures.runs tells in
    if_ok c.later_of.result _ _ (c.later_of.ensures.views apart)
    (λ later is. record { contents = held; runs = runs; all = is })

pub returns-in-Ok-clause-reports : goal.returns-in-Ok-clause-reports
returns-in-Ok-clause-reports g c = λ tells.
    let left = g.F.Read.remaining in
    let handed = c.into_parts-parts.ensures in
    let reports = subst (λ l. AllTell left l → c.in-Ok.contents.reports.items ≡ reports_of left l) handed.parts
    c.in-Ok.ensures.reports tells in
    if_ok c.later_of.result _ _ c.later_of.ensures.reports (λ later is.
    is ∙ (λ i. settled_reports (handed.sources i) later.views (handed.extents i).items (reports i)))
